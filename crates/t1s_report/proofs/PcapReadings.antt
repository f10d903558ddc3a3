-- A pcap file is read in one way.
use Rattle.std.proofs.Common.{◌≡◌, ℕ, ◌+◌, ◌*◌, ◌/◌, ◌%◌, ◌^◌, ◌<◌, List, [], ◌∷◌, ◌++◌, length, refl, sym, ap, ◌∙◌, arith, append_assoc, length-append}
use Rattle.std.specs.Int.{from_be_bytes, w32}
use Rattle.std.specs.List.{All, flat_map}
use Rattle.std.proofs.Math.Nat.{mod-eq_of_lt, mod-lt, div-add-mod}
use Rattle.std.proofs.lemmas.List.{append_cancel_left}
use Rattle.std.proofs.lemmas.List.Elements.{All-head, All-tail}
use Rattle.std.proofs.lemmas.Nat.{from_be_bytes-to_be_bytes_4}
use Rattle.t1s_base.specs.Limits.{most_ticks}
use Rattle.t1s_report.specs.PcapText.{PcapRecord, pcap_head, four_octets, record_text, pcap_text, IsPcapRecord}

-- texts of the same length are told apart from what follows them
split : (x y a b : List ℕ) → length x ≡ length y → x ++ a ≡ y ++ b → (x ≡ y) × (a ≡ b)
split [] [] a b l e = (refl, e)
split [] (v ∷ y) a b l e = absurd (omega arith)
split (u ∷ x) [] a b l e = absurd (omega arith)
split (u ∷ x) (v ∷ y) a b l e =
    let same : u ≡ v = cc in
    let rest : x ++ a ≡ y ++ b = cc in
    let (first, after) = split x y a b (omega arith) rest in
    (cc, after)

four_long : (n : ℕ) → length (four_octets n) ≡ 4
four_long n = refl

read_four : (n : ℕ) → n < 2 ^ 32 → from_be_bytes w32 (four_octets n) ≡ n
read_four n low = from_be_bytes-to_be_bytes_4 (n % 2 ^ 32) (mod-lt n (omega arith)) ∙ mod-eq_of_lt low

-- four octets are one number
same_four : (m n : ℕ) (a b : List ℕ) → m < 2 ^ 32 → n < 2 ^ 32 → four_octets m ++ a ≡ four_octets n ++ b → (m ≡ n) × (a ≡ b)
same_four m n a b low low' e =
    let (same, after) = split (four_octets m) (four_octets n) a b (four_long m ∙ sym (four_long n)) e in
    (sym (read_four m low) ∙ (ap (λ (o : List ℕ). from_be_bytes w32 o) same ∙ read_four n low'), after)

-- the four numbers of a record, its octets, and what follows
parts : (r : PcapRecord) (a : List ℕ) →
    record_text r ++ a ≡ four_octets (r.time / 1000000) ++ (four_octets (r.time % 1000000) ++ (four_octets (length r.octets) ++ (four_octets (length r.octets) ++ (r.octets ++ a))))
parts r a = simp append_assoc

same_time : (t u : ℕ) → t / 1000000 ≡ u / 1000000 → t % 1000000 ≡ u % 1000000 → t ≡ u
same_time t u d m = sym (div-add-mod t 1000000) ∙ (ap (λ (q : ℕ). 1000000 * q + t % 1000000) d ∙ (ap (λ (r : ℕ). 1000000 * (u / 1000000) + r) m ∙ div-add-mod u 1000000))

seconds_low : (t : ℕ) → 10 * t < most_ticks → t / 1000000 < 2 ^ 32
seconds_low t low = omega (arith, div-add-mod t 1000000)

parts_low : (t : ℕ) → t % 1000000 < 2 ^ 32
parts_low t = let below : t % 1000000 < 1000000 = mod-lt t (omega arith) in omega arith

same_record : (r q : PcapRecord) → r.time ≡ q.time → r.octets ≡ q.octets → r ≡ q
same_record r q a b =
    let same : ◌≡◌ {A = PcapRecord} (record { time = r.time; octets = r.octets }) (record { time = q.time; octets = q.octets }) = cc in same

-- a record is told apart from what follows it
first_record : (r q : PcapRecord) (a b : List ℕ) → IsPcapRecord r → IsPcapRecord q → record_text r ++ a ≡ record_text q ++ b → (r ≡ q) × (a ≡ b)
first_record r q a b h k e =
    let n = length r.octets in
    let m = length q.octets in
    let n_low : n < 2 ^ 32 = omega (arith, h.short) in
    let m_low : m < 2 ^ 32 = omega (arith, k.short) in
    let s = same_four (r.time / 1000000) (q.time / 1000000) (four_octets (r.time % 1000000) ++ (four_octets n ++ (four_octets n ++ (r.octets ++ a)))) (four_octets (q.time % 1000000) ++ (four_octets m ++ (four_octets m ++ (q.octets ++ b))))
    (seconds_low r.time h.in_time) (seconds_low q.time k.in_time) (sym (parts r a) ∙ (e ∙ parts q b)) in
    let p = same_four (r.time % 1000000) (q.time % 1000000) (four_octets n ++ (four_octets n ++ (r.octets ++ a))) (four_octets m ++ (four_octets m ++ (q.octets ++ b))) (parts_low r.time) (parts_low q.time) s.1 in
    let l = same_four n m (four_octets n ++ (r.octets ++ a)) (four_octets m ++ (q.octets ++ b)) n_low m_low p.1 in
    let again = same_four n m (r.octets ++ a) (q.octets ++ b) n_low m_low l.1 in
    let o = split r.octets q.octets a b l.0 again.1 in
    (same_record r q (same_time r.time q.time s.0 p.0) o.0, o.1)

record_written : (r : PcapRecord) (a : List ℕ) → 0 < length (record_text r ++ a)
record_written r a =
    let rest = four_octets (r.time % 1000000) ++ (four_octets (length r.octets) ++ (four_octets (length r.octets) ++ (r.octets ++ a))) in
    let whole : length (record_text r ++ a) ≡ 4 + length rest = ap length (parts r a) ∙ length-append (four_octets (r.time / 1000000)) rest in
    omega (arith, whole)

one_list : (a b : List PcapRecord) → All IsPcapRecord a → All IsPcapRecord b → flat_map record_text a ≡ flat_map record_text b → a ≡ b
one_list [] [] h k e = refl
one_list [] (q ∷ b) h k e = absurd (let none : length (record_text q ++ flat_map record_text b) ≡ 0 = ap length (sym e) in omega (arith, record_written q (flat_map record_text b)))
one_list (r ∷ a) [] h k e = absurd (let none : length (record_text r ++ flat_map record_text a) ≡ 0 = ap length e in omega (arith, record_written r (flat_map record_text a)))
one_list (r ∷ a) (q ∷ b) h k e =
    let (first, rest) = first_record r q (flat_map record_text a) (flat_map record_text b) (All-head IsPcapRecord r a h) (All-head IsPcapRecord q b k) e in
    let others : a ≡ b = one_list a b (All-tail IsPcapRecord r a h) (All-tail IsPcapRecord q b k) rest in
    cc

pub one_pcap : (a b : List PcapRecord) → All IsPcapRecord a → All IsPcapRecord b → pcap_text a ≡ pcap_text b → a ≡ b
one_pcap a b h k e = one_list a b h k (append_cancel_left pcap_head (flat_map record_text a) (flat_map record_text b) e)
