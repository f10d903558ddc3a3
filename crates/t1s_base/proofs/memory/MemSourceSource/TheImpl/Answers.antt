use Rattle.std.proofs.Common.{Some, ap}
use Rattle.std.proofs.lemmas.Result.{IfOk-weaker, on_err_weaker}
use Rattle.t1s_base.proofs.TraitClauses.{read_bound, read_octets, read_end, cause_of_count}
use Rattle.t1s_base.proofs.memory.MemSourceSource.TheImpl.Goals as goal

pub read-tells : goal.read-tells
read-tells c =
    let old = c.args.self.now in
    let told = c.ensures in
    record {
      bound = read_bound old.left c.args.into.now c.new.into.now c.result told.count told.into;
      octets = read_octets old.left c.args.into.now c.new.into.now c.new.self.now.left c.result told.count told.into
          (IfOk-weaker c.result _ _ (λ count same. ap (λ s. s.left) same) told.ok);
      end = read_end old.left c.args.into.now c.new.into.now c.result c.requires told.count;
      none_taken = on_err_weaker c.result (λ same. ap (λ s. Some s.left) same.0) told.err;
      cause = cause_of_count _ _ c.result (IfOk-weaker c.result _ _ (λ count same. ap (λ s. s.calls.failed) same) told.ok)
          (on_err_weaker c.result (λ same. ap (λ s. s.calls.failed) same.0) told.err);
    }
