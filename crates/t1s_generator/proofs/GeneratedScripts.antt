-- Generated texts are read as fit scripts.
use Rattle.std.proofs.Common.{◌≡◌, ℕ, ◌≤◌, false, cond, ltb, List, [], ◌∷◌, ◌++◌, length, map, replicate, Ok, ap, ◌∙◌, arith, length-append}
use Rattle.std.specs.Prelude.{codes, decimal, filter_map}
use Rattle.t1s_script.specs.Values.{end_from}
use Rattle.std.specs.List.{concat, range_with_len}
use Rattle.std.proofs.lemmas.Bool.Decides.{nat_tests}
use Rattle.std.proofs.lemmas.List.FromFn.{length-map-range_with_len}
use Rattle.t1s_frame.specs.Frame.{frame_of}
use Rattle.t1s_script.specs.Lines.{lines_of, without_empty_last}
use Rattle.t1s_script.specs.Reading.{refused_at, first_refusal_or, script_by, script_from, script_after_first, script_in, script_of}
use Rattle.t1s_script.specs.declared.refusals.ScriptReason.TheVariants.{TooLong}
use Rattle.t1s_script.specs.declared.words.ScriptLine.TheVariants.{End}
use Rattle.t1s_generator.specs.Generated.{line, node_line, place_of, fill_line, number_of_frame, length_of_frame, octet_of_frame, tick_after, end_line, end_of_run, generated}
use Rattle.t1s_generator.specs.Law.{GeneratedScriptsAreFit}
use Rattle.t1s_generator.proofs.Words.{tick_more}
use Rattle.t1s_generator.proofs.LineFields.{lines_whole}
use Rattle.t1s_generator.proofs.ReadLines.{AreRead, both_read, counted_read, IsText, text_read}
use Rattle.t1s_generator.proofs.Plans.{Plan, IsPlan, said_node, said_offer, said_after, said}
use Rattle.t1s_generator.proofs.SaidLines.{count_read, seed_read, node_read, frame_read, end_read}
use Rattle.t1s_generator.proofs.Unbroken.{none_refused}
use Rattle.t1s_generator.proofs.SaidValues.{end_said}
use Rattle.t1s_generator.proofs.FitPlans.{fit_plan}

-- the script of a plan
plan_said : (p : Plan) → IsPlan p → script_after_first (said p) ≡ Ok (script_from (said p) p.last)
plan_said p h = ap (λ refusals. first_refusal_or refusals (script_by (said p) (filter_map end_from (said p)))) (none_refused p h) ∙ ap (script_by (said p)) (end_said p)

module _ (seed nodes frames : ℕ) (small : seed ≤ 4294967295) (some : 1 ≤ nodes) (few_nodes : nodes ≤ 16) (few_frames : frames ≤ 400) where
  -- the numbers of the text
  abbrev plan : Plan
  plan = record {
    nodes = nodes;
    frames = frames;
    seed = seed;
    last = end_of_run seed nodes frames;
    place = place_of seed;
    number = number_of_frame seed nodes;
    frame = λ k. frame_of (replicate (length_of_frame seed nodes k) (octet_of_frame seed nodes k));
    tick = tick_after seed nodes;
  }

  is_plan : IsPlan plan
  is_plan = record {
    nodes_low = some;
    nodes_high = few_nodes;
    frames_high = omega arith;
    place_high = λ k. omega arith;
    number_high = λ k. omega arith;
    in_order = λ k. omega (arith, tick_more seed nodes k);
    before_end = omega arith;
  }

  -- the lines after the first
  abbrev later : List (List ℕ)
  later = line (codes "count" ∷ decimal nodes ∷ []) ∷ line (codes "seed" ∷ decimal seed ∷ [])
      ∷ (map (node_line seed) (range_with_len 0 nodes) ++ (map (fill_line seed nodes) (range_with_len 0 frames) ++ end_line seed nodes frames ∷ []))

  later_read : AreRead later (said plan)
  later_read =
      let node_lines = counted_read (node_line seed) (said_node plan) 0 nodes (λ k below. node_read seed k (omega arith)) in
      let frame_lines = counted_read (fill_line seed nodes) (said_offer plan) 0 frames (λ k below. frame_read seed nodes k some few_nodes (omega arith)) in (
        count_read nodes some few_nodes,
        (
          seed_read seed small,
          both_read (map (node_line seed) (range_with_len 0 nodes)) (map (said_node plan) (range_with_len 0 nodes))
              (map (fill_line seed nodes) (range_with_len 0 frames) ++ end_line seed nodes frames ∷ []) (said_after plan) node_lines
              (both_read (map (fill_line seed nodes) (range_with_len 0 frames)) (map (said_offer plan) (range_with_len 0 frames))
              (end_line seed nodes frames ∷ []) (Ok (End plan.last) ∷ []) frame_lines (end_read seed nodes frames few_frames, tt)),
        ),
      )

  text : IsText (concat later) (length later) (said plan)
  text = text_read later (said plan) later_read

  lines_said : lines_of (generated seed nodes frames) ≡ codes "t1s 1" ∷ text.bares
  lines_said = ap (λ parts. without_empty_last (codes "t1s 1" ∷ parts)) text.cut ∙ lines_whole (codes "t1s 1" ∷ text.bares)

  count_later : length later ≤ 419
  count_later =
      omega (
        arith,
        length-append (map (node_line seed) (range_with_len 0 nodes)) (map (fill_line seed nodes) (range_with_len 0 frames) ++ end_line seed nodes frames ∷ []),
        length-append (map (fill_line seed nodes) (range_with_len 0 frames)) (end_line seed nodes frames ∷ []),
        length-map-range_with_len (node_line seed) 0 nodes,
        length-map-range_with_len (fill_line seed nodes) 0 frames,
      )

  short : ltb 1048576 (length (generated seed nodes frames)) ≡ false
  short = go (length (generated seed nodes frames)) (omega (arith, text.short, count_later))
    where
      go : (n : ℕ) → n ≤ 50000 → ltb 1048576 n ≡ false
      go n low = grind (arith, nat_tests)

  script_said : script_of (generated seed nodes frames) ≡ Ok (script_from (said plan) plan.last)
  script_said =
      ap (λ b. cond b (refused_at 0 TooLong) (script_in (lines_of (generated seed nodes frames)))) short
      ∙ ap script_in lines_said ∙ ap script_after_first text.parsed ∙ plan_said plan is_plan

pub generated_fit : GeneratedScriptsAreFit
generated_fit seed nodes frames small some few_nodes few_frames = (
  script_from (said (plan seed nodes frames small some few_nodes few_frames)) (end_of_run seed nodes frames),
  script_said seed nodes frames small some few_nodes few_frames,
  fit_plan (plan seed nodes frames small some few_nodes few_frames) (is_plan seed nodes frames small some few_nodes few_frames),
)
