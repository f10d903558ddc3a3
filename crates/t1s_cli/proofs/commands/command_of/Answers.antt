use Rattle.std.proofs.Common.{◌≡◌, ℕ, ◌<◌, ◌≤◌, List, [], ◌∷◌, length, get_or, map, codes, decimal, Global, Option, Some, refl, sym, ap, ◌∙◌, arith, rules}
use Rattle.std.specs.Option.{option_map}
use Rattle.std.specs.String.{string_bytes}
use Rattle.std.specs.Prelude.{◌↔◌}
use Rattle.t1s_base.specs.Limits.{last_node}
use Rattle.t1s_cli.specs.declared.commands.Command.{Command}
use Rattle.t1s_cli.specs.declared.commands.Command.TheVariants.{OnScript, OnCapture}
use Rattle.t1s_cli.specs.declared.commands.ScriptTask.{ScriptTask}
use Rattle.t1s_cli.specs.declared.commands.ScriptTask.TheVariants.{Run, Check, Json, Capture, Pcap}
use Rattle.t1s_cli.specs.declared.commands.CaptureTask.{CaptureTask}
use Rattle.t1s_cli.specs.declared.commands.CaptureTask.TheVariants.{Decode}
use Rattle.t1s_cli.specs.Words.{AreTask, AreCaptureTask}
use Rattle.std.specs.declared.string.String.{String}
use Rattle.t1s_cli.proofs.commands.command_of.Goals as goal

one_word : (words : List (String Global)) (word : String Global) (octets : List ℕ) → 1 ≤ length words → length words < 2 → word ≡ get_or words 0 word → string_bytes word ≡ octets → map string_bytes words ≡ octets ∷ []
one_word [] word octets l h at same = absurd (omega arith)
one_word (w ∷ []) word octets l h at same = rw (← at, same) refl
one_word (w ∷ v ∷ words) word octets l h at same = absurd (omega arith)

-- the row of each task: the words ask for no other
run_row : (words : List (String Global)) → map string_bytes words ≡ codes "run" ∷ [] → (task : ScriptTask) → (◌≡◌ {A = Option Command} (Some (OnScript Run)) (Some (OnScript task))) ↔ AreTask words task
run_row words is Run = (λ _. is, λ _. refl)
run_row words is Check = (λ e. absurd cc, λ h. absurd (let z = sym is ∙ h in cc))
run_row words is Json = (λ e. absurd cc, λ h. absurd (let z = sym is ∙ h in cc))
run_row words is (Capture node) = (λ e. absurd cc, λ h. absurd (let z = sym is ∙ h.1 in cc))
run_row words is (Pcap node) = (λ e. absurd cc, λ h. absurd (let z = sym is ∙ h.1 in cc))

check_row : (words : List (String Global)) → map string_bytes words ≡ codes "check" ∷ [] → (task : ScriptTask) → (◌≡◌ {A = Option Command} (Some (OnScript Check)) (Some (OnScript task))) ↔ AreTask words task
check_row words is Run = (λ e. absurd cc, λ h. absurd (let z = sym is ∙ h in cc))
check_row words is Check = (λ _. is, λ _. refl)
check_row words is Json = (λ e. absurd cc, λ h. absurd (let z = sym is ∙ h in cc))
check_row words is (Capture node) = (λ e. absurd cc, λ h. absurd (let z = sym is ∙ h.1 in cc))
check_row words is (Pcap node) = (λ e. absurd cc, λ h. absurd (let z = sym is ∙ h.1 in cc))

json_row : (words : List (String Global)) → map string_bytes words ≡ codes "json" ∷ [] → (task : ScriptTask) → (◌≡◌ {A = Option Command} (Some (OnScript Json)) (Some (OnScript task))) ↔ AreTask words task
json_row words is Run = (λ e. absurd cc, λ h. absurd (let z = sym is ∙ h in cc))
json_row words is Check = (λ e. absurd cc, λ h. absurd (let z = sym is ∙ h in cc))
json_row words is Json = (λ _. is, λ _. refl)
json_row words is (Capture node) = (λ e. absurd cc, λ h. absurd (let z = sym is ∙ h.1 in cc))
json_row words is (Pcap node) = (λ e. absurd cc, λ h. absurd (let z = sym is ∙ h.1 in cc))

decode_row : (words : List (String Global)) → map string_bytes words ≡ codes "decode" ∷ [] → (task : CaptureTask) → (◌≡◌ {A = Option Command} (Some (OnCapture Decode)) (Some (OnCapture task))) ↔ AreCaptureTask words task
decode_row words is Decode = (λ _. is, λ _. refl)

second : {a b : List ℕ} {x : List ℕ} → x ∷ a ∷ [] ≡ x ∷ b ∷ [] → a ≡ b
second e = cc

-- the number of the node is the one that the second word writes
capture_row : (words : List (String Global)) (number : List ℕ) (node : ℕ) → map string_bytes words ≡ codes "capture" ∷ number ∷ [] →
    ((n : ℕ) → (◌≡◌ {A = Option ℕ} (Some node) (Some n)) ↔ ((n ≤ last_node) × (number ≡ decimal n))) →
    (task : ScriptTask) → (◌≡◌ {A = Option Command} (Some (OnScript (Capture node))) (Some (OnScript task))) ↔ AreTask words task
capture_row words number node is reads Run = (λ e. absurd cc, λ h. absurd (let z = sym is ∙ h in cc))
capture_row words number node is reads Check = (λ e. absurd cc, λ h. absurd (let z = sym is ∙ h in cc))
capture_row words number node is reads Json = (λ e. absurd cc, λ h. absurd (let z = sym is ∙ h in cc))
capture_row words number node is reads (Capture n) = (
  λ e.
      let same : node ≡ n = cc in
      let (low, text) = (reads n).0 (ap Some same) in
      (low, is ∙ ap (λ (word : List ℕ). codes "capture" ∷ word ∷ []) text),
  λ h.
      let text : number ≡ decimal n = second (sym is ∙ h.1) in
      ap (option_map (λ (k : ℕ). OnScript (Capture k))) ((reads n).1 (h.0, text)),
)
capture_row words number node is reads (Pcap n) = (λ e. absurd cc, λ h. absurd (let z = sym is ∙ h.1 in cc))

pcap_row : (words : List (String Global)) (number : List ℕ) (node : ℕ) → map string_bytes words ≡ codes "pcap" ∷ number ∷ [] →
    ((n : ℕ) → (◌≡◌ {A = Option ℕ} (Some node) (Some n)) ↔ ((n ≤ last_node) × (number ≡ decimal n))) →
    (task : ScriptTask) → (◌≡◌ {A = Option Command} (Some (OnScript (Pcap node))) (Some (OnScript task))) ↔ AreTask words task
pcap_row words number node is reads Run = (λ e. absurd cc, λ h. absurd (let z = sym is ∙ h in cc))
pcap_row words number node is reads Check = (λ e. absurd cc, λ h. absurd (let z = sym is ∙ h in cc))
pcap_row words number node is reads Json = (λ e. absurd cc, λ h. absurd (let z = sym is ∙ h in cc))
pcap_row words number node is reads (Capture n) = (λ e. absurd cc, λ h. absurd (let z = sym is ∙ h.1 in cc))
pcap_row words number node is reads (Pcap n) = (
  λ e.
      let same : node ≡ n = cc in
      let (low, text) = (reads n).0 (ap Some same) in
      (low, is ∙ ap (λ (word : List ℕ). codes "pcap" ∷ word ∷ []) text),
  λ h.
      let text : number ≡ decimal n = second (sym is ∙ h.1) in
      ap (option_map (λ (k : ℕ). OnScript (Pcap k))) ((reads n).1 (h.0, text)),
)

pub returns-in-len1-clause-script : goal.returns-in-len1-clause-script
returns-in-len1-clause-script c =
    let same : string_bytes c.word-item.result ≡ codes "run" = search rules in
    run_row c.args.words.now (one_word c.args.words.now c.word-item.result (codes "run") c.in-len1.len_at_least c.in-len1.len_below c.word-item.is same)

pub returns-in-len1-2-clause-script : goal.returns-in-len1-2-clause-script
returns-in-len1-2-clause-script c =
    let same : string_bytes c.word-item-then-words-lt2.result ≡ codes "check" = search rules in
    check_row c.args.words.now (one_word c.args.words.now c.word-item-then-words-lt2.result (codes "check") c.in-len1.len_at_least c.in-len1.len_below c.word-item-then-words-lt2.is same)

pub returns-in-len1-3-clause-script : goal.returns-in-len1-3-clause-script
returns-in-len1-3-clause-script c =
    let same : string_bytes c.word-item-then-words-lt2-2.result ≡ codes "json" = search rules in
    json_row c.args.words.now (one_word c.args.words.now c.word-item-then-words-lt2-2.result (codes "json") c.in-len1.len_at_least c.in-len1.len_below c.word-item-then-words-lt2-2.is same)

pub returns-in-len1-4-clause-capture : goal.returns-in-len1-4-clause-capture
returns-in-len1-4-clause-capture c =
    let same : string_bytes c.word-item-then-words-lt2-3.result ≡ codes "decode" = search rules in
    decode_row c.args.words.now (one_word c.args.words.now c.word-item-then-words-lt2-3.result (codes "decode") c.in-len1.len_at_least c.in-len1.len_below c.word-item-then-words-lt2-3.is same)

two_words : (words : List (String Global)) (word number : String Global) → 2 ≤ length words → length words < 3 → word ≡ get_or words 0 word → number ≡ get_or words 1 number →
    map string_bytes words ≡ string_bytes word ∷ string_bytes number ∷ []
two_words [] word number l h at next = absurd (omega arith)
two_words (w ∷ []) word number l h at next = absurd (omega arith)
two_words (w ∷ v ∷ []) word number l h at next = rw (← at, ← next) refl
two_words (w ∷ v ∷ u ∷ words) word number l h at next = absurd (omega arith)

pub returns-in_ok-node-in-len2-clause-script : goal.returns-in_ok-node-in-len2-clause-script
returns-in_ok-node-in-len2-clause-script c =
    let same : string_bytes c.word-item-then-words-lt3.result ≡ codes "capture" = search rules in
    let octets : c.as_bytes-in-len2.result.now ≡ string_bytes c.number-item.result = c.as_bytes-in-len2.ensures.value in
    let words : map string_bytes c.args.words.now ≡ codes "capture" ∷ c.as_bytes-in-len2.result.now ∷ [] =
    rw (octets, ← same) (two_words c.args.words.now c.word-item-then-words-lt3.result c.number-item.result c.in-len2.len_at_least c.in-len2.len_below c.word-item-then-words-lt3.is c.number-item.is) in
    capture_row c.args.words.now c.as_bytes-in-len2.result.now c.in_ok-node-in-len2.node words (λ n. rw c.in_ok-node-in-len2.was at (c.node_number.ensures n))

pub returns-in_ok-node-in-len2-2-clause-script : goal.returns-in_ok-node-in-len2-2-clause-script
returns-in_ok-node-in-len2-2-clause-script c =
    let same : string_bytes c.word-item-then-words-lt3-2.result ≡ codes "pcap" = search rules in
    let octets : c.as_bytes-in-len2-2.result.now ≡ string_bytes c.number-item-then-words-lt3.result = c.as_bytes-in-len2-2.ensures.value in
    let words : map string_bytes c.args.words.now ≡ codes "pcap" ∷ c.as_bytes-in-len2-2.result.now ∷ [] =
    rw (octets, ← same) (two_words c.args.words.now c.word-item-then-words-lt3-2.result c.number-item-then-words-lt3.result c.in-len2.len_at_least c.in-len2.len_below c.word-item-then-words-lt3-2.is c.number-item-then-words-lt3.is) in
    pcap_row c.args.words.now c.as_bytes-in-len2-2.result.now c.in_ok-node-in-len2-2.node words (λ n. rw c.in_ok-node-in-len2-2.was at (c.node_number-in-len2-2.ensures n))
