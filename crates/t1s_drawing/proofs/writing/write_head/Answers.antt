use Rattle.t1s_drawing.proofs.writing.write_head.Goals as goal

pub returns : goal.returns
returns g c = rw (c.label.ensures.value, c.plain_box.ensures.value, c.width.ensures, c.height.ensures, c.put_head.ensures.value) at c.write_line.ensures
