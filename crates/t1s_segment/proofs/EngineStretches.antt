-- For how long an engine has nothing to do: what is looked at one after the other ends the stretch.
use Rattle.std.proofs.Common.{◌≡◌, ℕ, ◌+◌, ◌-◌, ◌<◌, ◌≤◌, min, inl, inr, List, Option, refl, arith, subst, add-zero}
use Rattle.std.proofs.lemmas.Bool.{cases_lt}
use Rattle.t1s_symbols.specs.declared.Quarter.{Quarter}
use Rattle.t1s_cable.specs.Calm.{after_silence, IsCalm as IsSilent}
use Rattle.t1s_cable.specs.Stands.{Stands as CableStands}
use Rattle.t1s_line.specs.Outcomes.{NodePhases}
use Rattle.t1s_segment.specs.State.{EngineState}
use Rattle.t1s_segment.specs.Stretches.{AllCalm, IsStretch, OneActs, Reaches}
use Rattle.t1s_acts.specs.Upcoming.{AreComing, free_ticks}
use Rattle.t1s_acts.proofs.ActSteps.{free_coming, free_ends, free_within}
use Rattle.t1s_segment.proofs.NodeStretches.{calm_fewer, calm_none}

module _ {N : Type 0} (p : NodePhases N) (calm : ℕ → N → Type 0) (g : EngineState N) (most : ℕ) (in_time : g.tick ≤ g.end) where
  coming_here : AreComing g.tick g.upcoming → AreComing (g.tick + 0) g.upcoming
  coming_here coming = rw add-zero coming

  -- a noise lasts
  pub noise_first : g.tick < g.noise_until → IsStretch p calm g most 0
  noise_first lasts = record {
    within = omega arith;
    in_time = omega (arith, in_time);
    no_noise = λ some. absurd (omega (arith, some));
    nodes = calm_none p calm g.tick g.nodes;
    coming = coming_here;
    silent = λ rows stands k below. absurd (omega (arith, below));
    ends = λ short left coming. inl (refl, lasts);
  }

  module _ (over : g.noise_until ≤ g.tick) (limit : ℕ) (limited : limit ≡ min most (g.end - g.tick)) where
    -- a node is not calm at all
    pub node_first : (n : ℕ) → n ≡ 0 → (n < limit → OneActs p calm g.tick n g.nodes) → IsStretch p calm g most 0
    node_first n none acts = record {
      within = omega arith;
      in_time = omega (arith, in_time);
      no_noise = λ some. over;
      nodes = calm_none p calm g.tick g.nodes;
      coming = coming_here;
      silent = λ rows stands k below. absurd (omega (arith, below));
      ends = λ short left coming. inr (inl (subst (λ k. OneActs p calm g.tick k g.nodes) none (acts (omega (arith, short, left, none, limited)))));
    }

    -- all nodes are calm for so long, and before the next act and the next quarter
    pub all_calm : (c f n : ℕ) → c ≤ limit → AllCalm p calm g.tick c g.nodes → (c < limit → OneActs p calm g.tick c g.nodes)
        → f ≡ free_ticks g.tick c g.upcoming → n ≤ f
        → ((rows : List (List (Option Quarter))) → CableStands rows g.cable → (k : ℕ) → k < n → IsSilent g.cable.taps (after_silence g.cable.taps k rows))
        → (n < f → Reaches g n) → IsStretch p calm g most n
    all_calm c f n within nodes acts free le silent reaches =
        let few = free_within g.tick c g.upcoming in
        record {
          within = omega (arith, le, free, few, within, limited);
          in_time = omega (arith, in_time, le, free, few, within, limited);
          no_noise = λ some. over;
          nodes = calm_fewer p calm g.tick n c g.nodes (omega (arith, le, free, few)) nodes;
          coming = free_coming g.tick c n g.upcoming (omega (arith, le, free));
          silent = silent;
          ends = λ short left coming. elim (cases_lt n f) [
            | inl before ↦ inr (inr (inr (reaches before)))
            | inr past ↦ elim (cases_lt f c) [
              | inl due ↦ inr (inr (inl (free_ends g.tick c n g.upcoming (omega (arith, le, past, free)) coming (omega (arith, le, due)))))
              | inr last ↦
                  let same : c ≡ n = omega (arith, le, past, last, free, few) in
                  inr (inl (subst (λ k. OneActs p calm g.tick k g.nodes) same (acts (omega (arith, same, short, left, limited)))))
            ]
          ];
        }
