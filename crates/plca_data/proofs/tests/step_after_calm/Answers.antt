use Rattle.plca_data.proofs.tests.step_after_calm.Goals as goal

pub pass-requires : goal.pass-requires
pass-requires c line = (c.calm_for-calm.ensures line).calm
