use Rattle.std.proofs.Common.{◌≡◌, sym, ap, ◌∙◌}
use Rattle.t1s_grammar.specs.PlaceTable.{ends_burst}
use Rattle.t1s_grammar.proofs.Beginnings.{IsBurst-stands, stands-burst}
use Rattle.t1s_grammar.proofs.place.Place.is_burst.Goals as goal

pub returns-clause-burst : goal.returns-clause-burst
returns-clause-burst c symbols h =
    let value : c.ends_burst.result ≡ ends_burst c.args.self.now = c.ends_burst.ensures ∙ ap ends_burst c.self.view_is in (
      λ e. IsBurst-stands symbols c.args.self.now h (sym value ∙ e),
      λ b. value ∙ stands-burst symbols c.args.self.now h b,
    )
