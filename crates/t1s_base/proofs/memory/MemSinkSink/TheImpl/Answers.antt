use Rattle.std.proofs.Common.{Some, ap, arith}
use Rattle.std.proofs.lemmas.Result.{IfErr-weaker, on_ok_weaker, on_err_weaker}
use Rattle.t1s_base.proofs.TraitClauses.{either_way, write_prefix, cause_of_count}
use Rattle.t1s_base.proofs.memory.MemSinkSink.TheImpl.Goals as goal

pub write-tells : goal.write-tells
write-tells c =
    let told = c.ensures in
    record {
      bound = IfErr-weaker c.result _ _ (λ stop none. omega arith) told.none_taken;
      whole = on_ok_weaker c.result (λ same. ap (λ s. Some s.octets) same) told.ok;
      prefix = write_prefix c.args.self.now.octets c.new.self.now.octets c.args.piece.now c.result told.none_taken (on_err_weaker c.result (λ same. ap (λ s. s.octets) same) told.err);
      unfinished = either_way c.result (on_ok_weaker c.result (λ same. ap (λ s. s.finished) same) told.ok) (on_err_weaker c.result (λ same. ap (λ s. s.finished) same) told.err);
      cause = cause_of_count _ _ c.result (on_ok_weaker c.result (λ same. ap (λ s. s.calls.failed) same) told.ok)
          (on_err_weaker c.result (λ same. ap (λ s. s.calls.failed) same) told.err);
    }

pub finish-tells : goal.finish-tells
finish-tells c =
    let told = c.ensures in
    record {
      finished = on_ok_weaker c.result (λ same. ap (λ s. s.finished) same) told.ok;
      as_before = on_err_weaker c.result (λ same. ap (λ s. s.finished) same) told.err;
      octets = either_way c.result (on_ok_weaker c.result (λ same. ap (λ s. Some s.octets) same) told.ok) (on_err_weaker c.result (λ same. ap (λ s. Some s.octets) same) told.err);
      cause = cause_of_count _ _ c.result (on_ok_weaker c.result (λ same. ap (λ s. s.calls.failed) same) told.ok)
          (on_err_weaker c.result (λ same. ap (λ s. s.calls.failed) same) told.err);
    }
