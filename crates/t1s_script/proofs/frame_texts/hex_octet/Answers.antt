use Rattle.std.proofs.Common.{sym}
use Rattle.t1s_script.proofs.HexTexts.{no_octet_read}
use Rattle.t1s_script.proofs.frame_texts.hex_octet.Goals as goal

pub returns-in-Err : goal.returns-in-Err
returns-in-Err c = sym (no_octet_read c.args.text.now c.decode_to_slice.new.out c.decode_to_slice.result c.in-Err.field-0 c.decode_to_slice.ensures.value c.in-Err.is)
