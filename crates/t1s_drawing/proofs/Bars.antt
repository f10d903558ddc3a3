-- The bars are the parts of the drives that events tell.
use Rattle.std.proofs.Common.{◌≡◌, ◌⊎◌, ℕ, zero, suc, ◌<◌, true, List, [], ◌∷◌, ◌++◌, length, get_or, Option, Some, None, refl, sym, ap, subst, ◌∙◌, inl, inr, arith, length-set}
use Rattle.std.specs.Option.{option_to_list}
use Rattle.std.proofs.lemmas.List.{get_or-set_other, get_or-set_same}
use Rattle.std.proofs.lemmas.Bool.{cases_eq}
use Rattle.t1s_drawing.specs.BarLaws.{BarsAreDrives, GoesOnTo, HaveLanes, IsOneOf, StaysAt, TellsDrive, bars_from, last_bars}
use Rattle.t1s_drawing.specs.Progress.{after_event, at_start, drive_at, drive_from, ended_bar, is_lane, opened, told_bar}
use Rattle.t1s_drawing.specs.Shapes.{bar, clipped, turn_of}
use Rattle.t1s_drawing.specs.declared.report.Event.{Event}
use Rattle.t1s_drawing.specs.declared.shapes.Drive.{Drive}
use Rattle.t1s_drawing.specs.declared.shapes.Part.{Part}
use Rattle.t1s_drawing.specs.declared.shapes.Shape.{Shape}
use Rattle.t1s_drawing.specs.declared.progress.Progress.{Progress}
use Rattle.t1s_drawing.specs.declared.window.Window.{Window}

-- ---- lists

one_left : (xs ys : List Shape) (s : Shape) → IsOneOf xs s → IsOneOf (xs ++ ys) s
one_left [] ys s h = absurd h
one_left (x ∷ xs) ys s (inl e) = inl e
one_left (x ∷ xs) ys s (inr h) = inr (one_left xs ys s h)

one_right : (xs ys : List Shape) (s : Shape) → IsOneOf ys s → IsOneOf (xs ++ ys) s
one_right [] ys s h = h
one_right (x ∷ xs) ys s h = inr (one_right xs ys s h)

one_which : (xs ys : List Shape) (s : Shape) → IsOneOf (xs ++ ys) s → IsOneOf xs s ⊎ IsOneOf ys s
one_which [] ys s h = inr h
one_which (x ∷ xs) ys s (inl e) = inl (inl e)
one_which (x ∷ xs) ys s (inr h) = elim (one_which xs ys s h) [ inl a ↦ inl (inr a) | inr b ↦ inr b ]

one_some : (o : Option Shape) (s : Shape) → IsOneOf (option_to_list o) s → o ≡ Some s
one_some None s h = absurd h
one_some (Some x) s (inl e) = ap Some e
one_some (Some x) s (inr h) = absurd h

some_one : (o : Option Shape) (s : Shape) → o ≡ Some s → IsOneOf (option_to_list o) s
some_one None s e = absurd cc
some_one (Some x) s e = inl cc

-- ---- a bar

bar_is : (w : Window) (node : ℕ) (o : Option Drive) (stop : ℕ) (s : Shape) → bar w node o stop ≡ Some s → (d : Drive) × (o ≡ Some d) × (clipped w node d stop ≡ Some s)
bar_is w node None stop s e = absurd cc
bar_is w node (Some d) stop s e = (d, refl, e)

is_bar : (w : Window) (node : ℕ) (o : Option Drive) (stop : ℕ) (s : Shape) (d : Drive) → o ≡ Some d → clipped w node d stop ≡ Some s → bar w node o stop ≡ Some s
is_bar w node o stop s d is e = ap (λ (p : Option Drive). bar w node p stop) is ∙ e

last_sound : (w : Window) (p : Progress) (count : ℕ) (s : Shape) → IsOneOf (last_bars w p count) s → (node : ℕ) × (node < count) × (bar w node (drive_at p node) w.until ≡ Some s)
last_sound w p zero s h = absurd h
last_sound w p (suc count) s h =
    elim (one_which (last_bars w p count) (option_to_list (bar w count (drive_at p count) w.until)) s h) [
      | inl a ↦ let (node, low, e) = last_sound w p count s a in (node, omega arith, e)
      | inr b ↦ (count, omega arith, one_some (bar w count (drive_at p count) w.until) s b)
    ]

last_complete : (w : Window) (p : Progress) (count : ℕ) (s : Shape) (node : ℕ) → node < count → bar w node (drive_at p node) w.until ≡ Some s → IsOneOf (last_bars w p count) s
last_complete w p zero s node low e = absurd (omega arith)
last_complete w p (suc count) s node low e =
    elim (cases_eq node count) [
      | inl same ↦
          one_right (last_bars w p count) (option_to_list (bar w count (drive_at p count) w.until)) s
          (some_one (bar w count (drive_at p count) w.until) s (subst (λ (n : ℕ). bar w n (drive_at p n) w.until ≡ Some s) same e))
      | inr other ↦
          let lower : node < count = omega arith in
          one_left (last_bars w p count) (option_to_list (bar w count (drive_at p count) w.until)) s (last_complete w p count s node lower e)
    ]

-- ---- what is driven after an event

pub lane_low : (w : Window) (node : ℕ) → is_lane w node ≡ true → (node < w.nodes) × (node < 32)
lane_low w node h = (grind arith, grind arith)

driven_same : (p : Progress) (e : Event) (node : ℕ) → (e.node ≡ node → turn_of e.what ≡ None) → drive_at (after_event p e) node ≡ drive_at p node
driven_same p e node stays = go (turn_of e.what) refl
  where
    go : (o : Option (Option Part)) → turn_of e.what ≡ o → get_or (opened p.driven e o) node None ≡ get_or p.driven node None
    go None is = refl
    go (Some part) is = get_or-set_other p.driven e.node node (drive_from e.tick part) None (λ same. let z = stays (sym same) in absurd (let y = sym z ∙ is in cc))

driven_turned : (p : Progress) (e : Event) (part : Option Part) → turn_of e.what ≡ Some part → e.node < length p.driven → drive_at (after_event p e) e.node ≡ drive_from e.tick part
driven_turned p e part is low = rw is (get_or-set_same p.driven e.node (drive_from e.tick part) None low)

lanes_kept : (p : Progress) (e : Event) → length p.driven ≡ 32 → length (after_event p e).driven ≡ 32
lanes_kept p e h = go (turn_of e.what)
  where
    go : (o : Option (Option Part)) → length (opened p.driven e o) ≡ 32
    go None = h
    go (Some part) = length-set p.driven e.node (drive_from e.tick part) ∙ h

-- ---- events before others

pub goes_on_before : (w : Window) (e : Event) (events : List Event) (node stop : ℕ) → (e.node ≡ node → turn_of e.what ≡ None) → GoesOnTo w events node stop → GoesOnTo w (e ∷ events) node stop
goes_on_before w e events node stop stays (inl h) = inl (record {
  between = e ∷ h.between;
  last = h.last;
  rest = h.rest;
  events_are = ap (λ (es : List Event). e ∷ es) h.events_are;
  stays = (stays, h.stays);
  at = h.at;
  ends = h.ends;
  tick = h.tick;
})
goes_on_before w e events node stop stays (inr h) = inr ((stays, h.0), h.1)

pub head_is : {a b : Event} {xs ys : List Event} → a ∷ xs ≡ b ∷ ys → a ≡ b
head_is e = cc

pub tail_is : {a b : Event} {xs ys : List Event} → a ∷ xs ≡ b ∷ ys → xs ≡ ys
tail_is e = cc

-- what goes on past an event that doesn't tell otherwise
pub goes_on_after : (w : Window) (e : Event) (events : List Event) (node stop : ℕ) → (e.node ≡ node → turn_of e.what ≡ None) → GoesOnTo w (e ∷ events) node stop → GoesOnTo w events node stop
goes_on_after w e events node stop stays (inr h) = inr (h.0.1, h.1)
goes_on_after w e events node stop stays (inl h) = go h.between h.events_are h.stays
  where
    go : (between : List Event) → e ∷ events ≡ between ++ h.last ∷ h.rest → StaysAt node between → GoesOnTo w events node stop
    go [] is stay =
        let same : e ≡ h.last = head_is is in
        absurd (h.ends (ap (λ (x : Event). turn_of x.what) (sym same) ∙ stays (ap (λ (x : Event). x.node) same ∙ h.at)))
    go (b ∷ between) is stay = inl (record {
      between = between;
      last = h.last;
      rest = h.rest;
      events_are = tail_is is;
      stays = stay.1;
      at = h.at;
      ends = h.ends;
      tick = h.tick;
    })

-- what an event ends, ends there
pub ends_here : (w : Window) (e : Event) (events : List Event) (node stop : ℕ) (part : Option Part) → e.node ≡ node → turn_of e.what ≡ Some part → GoesOnTo w (e ∷ events) node stop → e.tick ≡ stop
ends_here w e events node stop part at is (inr h) = absurd (let z = sym (h.0.0 at) ∙ is in cc)
ends_here w e events node stop part at is (inl h) = go h.between h.events_are h.stays
  where
    go : (between : List Event) → e ∷ events ≡ between ++ h.last ∷ h.rest → StaysAt node between → e.tick ≡ stop
    go [] eq stay = ap (λ (x : Event). x.tick) (head_is eq) ∙ h.tick
    go (b ∷ between) eq stay =
        let same : e ≡ b = head_is eq in
        absurd (let z = sym (stay.0 (ap (λ (x : Event). x.node) (sym same) ∙ at)) ∙ (ap (λ (x : Event). turn_of x.what) (sym same) ∙ is) in cc)

-- ---- what is open, and what the events tell

record Open (w : Window) (p : Progress) (events : List Event) (shape : Shape) : Type 0 where
  node : ℕ
  drive : Drive
  stop : ℕ
  low : node < w.nodes
  driven : drive_at p node ≡ Some drive
  goes_on : GoesOnTo w events node stop
  shows : clipped w node drive stop ≡ Some shape

abbrev Told : Window → List Event → Shape → Type 0
Told w events shape = (node : ℕ) × (part : Part) × (start : ℕ) × (stop : ℕ) × TellsDrive w events node part start stop × (clipped w node (record { part = part; since = start }) stop ≡ Some shape)

told_before : (w : Window) (e : Event) (events : List Event) (shape : Shape) → Told w events shape → Told w (e ∷ events) shape
told_before w e events shape (node, part, start, stop, h, shows) = (
  node,
  part,
  start,
  stop,
  record {
    before = e ∷ h.before;
    first = h.first;
    rest = h.rest;
    events_are = ap (λ (es : List Event). e ∷ es) h.events_are;
    at = h.at;
    begins = h.begins;
    tick = h.tick;
    goes_on = h.goes_on;
  },
  shows,
)

sound : (w : Window) (events : List Event) (p : Progress) (shape : Shape) → length p.driven ≡ 32 → HaveLanes w events → IsOneOf (bars_from w p events) shape → Open w p events shape ⊎ Told w events shape
sound w [] p shape lanes at h =
    let (node, low, e) = last_sound w p w.nodes shape h in
    let (d, is, shows) = bar_is w node (drive_at p node) w.until shape e in
    inl (record { node = node; drive = d; stop = w.until; low = low; driven = is; goes_on = inr (tt, refl); shows = shows })
sound w (e ∷ events) p shape lanes at h =
    elim (one_which (option_to_list (told_bar w p e)) (bars_from w (after_event p e) events) shape h) [
      | inl a ↦ inl (here (turn_of e.what) refl (one_some (told_bar w p e) shape a))
      | inr b ↦ elim (sound w events (after_event p e) shape (lanes_kept p e lanes) at.1 b) [ inl o ↦ later o | inr t ↦ inr (told_before w e events shape t) ]
    ]
  where
    here : (o : Option (Option Part)) → turn_of e.what ≡ o → ended_bar w p e o ≡ Some shape → Open w p (e ∷ events) shape
    here None is eq = absurd cc
    here (Some part) is eq =
        let (d, driven, shows) = bar_is w e.node (drive_at p e.node) e.tick shape eq in
        record {
          node = e.node;
          drive = d;
          stop = e.tick;
          low = (lane_low w e.node at.0).0;
          driven = driven;
          goes_on = inl (record { between = []; last = e; rest = events; events_are = refl; stays = tt; at = refl; ends = λ z. (let y = sym is ∙ z in cc); tick = refl });
          shows = shows;
        }

    unturned : (o : Open w (after_event p e) events shape) → (e.node ≡ o.node → turn_of e.what ≡ None) → Open w p (e ∷ events) shape ⊎ Told w (e ∷ events) shape
    unturned o stays = inl (record {
      node = o.node;
      drive = o.drive;
      stop = o.stop;
      low = o.low;
      driven = sym (driven_same p e o.node stays) ∙ o.driven;
      goes_on = goes_on_before w e events o.node o.stop stays o.goes_on;
      shows = o.shows;
    })

    turned_at : (o : Open w (after_event p e) events shape) (part : Option Part) → e.node ≡ o.node → turn_of e.what ≡ Some part → Open w p (e ∷ events) shape ⊎ Told w (e ∷ events) shape
    turned_at o part same is =
        let low : e.node < length p.driven = rw lanes (lane_low w e.node at.0).1 in
        let driven : drive_from e.tick part ≡ Some o.drive = sym (driven_turned p e part is low) ∙ (ap (drive_at (after_event p e)) same ∙ o.driven) in
        begun part is driven
      where
        begun : (q : Option Part) → turn_of e.what ≡ Some q → drive_from e.tick q ≡ Some o.drive → Open w p (e ∷ events) shape ⊎ Told w (e ∷ events) shape
        begun None eq d = absurd cc
        begun (Some part') eq d =
            let drive : record { part = part'; since = e.tick } ≡ o.drive = cc in
            inr (
              o.node,
              part',
              e.tick,
              o.stop,
              record { before = []; first = e; rest = events; events_are = refl; at = same; begins = eq; tick = refl; goes_on = o.goes_on },
              ap (λ (x : Drive). clipped w o.node x o.stop) drive ∙ o.shows,
            )

    later : Open w (after_event p e) events shape → Open w p (e ∷ events) shape ⊎ Told w (e ∷ events) shape
    later o = by_turn (turn_of e.what) refl
      where
        by_turn : (t : Option (Option Part)) → turn_of e.what ≡ t → Open w p (e ∷ events) shape ⊎ Told w (e ∷ events) shape
        by_turn None is = unturned o (λ same. is)
        by_turn (Some part) is = elim (cases_eq e.node o.node) [ inl same ↦ turned_at o part same is | inr other ↦ unturned o (λ same. absurd (other same)) ]

pub no_events_end : (between : List Event) (last : Event) (rest : List Event) → [] ≡ between ++ last ∷ rest → ⊥
no_events_end [] last rest e = cc
no_events_end (b ∷ between) last rest e = cc

complete_open : (w : Window) (events : List Event) (p : Progress) (shape : Shape) → length p.driven ≡ 32 → HaveLanes w events → Open w p events shape → IsOneOf (bars_from w p events) shape
complete_open w [] p shape lanes at o = go o.goes_on
  where
    go : GoesOnTo w [] o.node o.stop → IsOneOf (last_bars w p w.nodes) shape
    go (inl h) = absurd (no_events_end h.between h.last h.rest h.events_are)
    go (inr h) = last_complete w p w.nodes shape o.node o.low (is_bar w o.node (drive_at p o.node) w.until shape o.drive o.driven (ap (clipped w o.node o.drive) (sym h.1) ∙ o.shows))
complete_open w (e ∷ events) p shape lanes at o = by_turn (complete_open w events (after_event p e) shape (lanes_kept p e lanes) at.1) (turn_of e.what) refl
  where
    past : (Open w (after_event p e) events shape → IsOneOf (bars_from w (after_event p e) events) shape) → (e.node ≡ o.node → turn_of e.what ≡ None) → IsOneOf (bars_from w p (e ∷ events)) shape
    past more stays =
        one_right (option_to_list (told_bar w p e)) (bars_from w (after_event p e) events) shape
        (more (record {
          node = o.node;
          drive = o.drive;
          stop = o.stop;
          low = o.low;
          driven = driven_same p e o.node stays ∙ o.driven;
          goes_on = goes_on_after w e events o.node o.stop stays o.goes_on;
          shows = o.shows;
        }))

    here : (part : Option Part) → e.node ≡ o.node → turn_of e.what ≡ Some part → IsOneOf (bars_from w p (e ∷ events)) shape
    here part same is =
        let stop : e.tick ≡ o.stop = ends_here w e events o.node o.stop part same is o.goes_on in
        let shown : bar w o.node (drive_at p o.node) o.stop ≡ Some shape = is_bar w o.node (drive_at p o.node) o.stop shape o.drive o.driven o.shows in
        let told : told_bar w p e ≡ Some shape =
        ap (ended_bar w p e) is ∙ (ap (λ (n : ℕ). bar w n (drive_at p n) e.tick) same ∙ (ap (bar w o.node (drive_at p o.node)) stop ∙ shown)) in
        one_left (option_to_list (told_bar w p e)) (bars_from w (after_event p e) events) shape (some_one (told_bar w p e) shape told)

    by_turn : (Open w (after_event p e) events shape → IsOneOf (bars_from w (after_event p e) events) shape) → (t : Option (Option Part)) → turn_of e.what ≡ t → IsOneOf (bars_from w p (e ∷ events)) shape
    by_turn more None is = past more (λ same. is)
    by_turn more (Some part) is = elim (cases_eq e.node o.node) [ inl same ↦ here part same is | inr other ↦ past more (λ same. absurd (other same)) ]

complete_told : (w : Window) (events : List Event) (p : Progress) (shape : Shape) → length p.driven ≡ 32 → HaveLanes w events → Told w events shape → IsOneOf (bars_from w p events) shape
complete_told w [] p shape lanes at (node, part, start, stop, h, shows) = absurd (no_events_end h.before h.first h.rest h.events_are)
complete_told w (e ∷ events) p shape lanes at (node, part, start, stop, h, shows) = go (complete_told w events (after_event p e) shape (lanes_kept p e lanes) at.1) h.before h.events_are
  where
    go : (Told w events shape → IsOneOf (bars_from w (after_event p e) events) shape) → (before : List Event) → e ∷ events ≡ before ++ h.first ∷ h.rest → IsOneOf (bars_from w p (e ∷ events)) shape
    go more [] is =
        let same : e ≡ h.first = head_is is in
        let begins : turn_of e.what ≡ Some (Some part) = ap (λ (x : Event). turn_of x.what) same ∙ h.begins in
        let tick : e.tick ≡ start = ap (λ (x : Event). x.tick) same ∙ h.tick in
        let at_node : e.node ≡ node = ap (λ (x : Event). x.node) same ∙ h.at in
        let lane = lane_low w e.node at.0 in
        let low : e.node < length p.driven = rw lanes lane.1 in
        one_right (option_to_list (told_bar w p e)) (bars_from w (after_event p e) events) shape
        (complete_open w events (after_event p e) shape (lanes_kept p e lanes) at.1 (record {
          node = node;
          drive = record { part = part; since = start };
          stop = stop;
          low = subst (λ (n : ℕ). n < w.nodes) at_node lane.0;
          driven = ap (drive_at (after_event p e)) (sym at_node) ∙ (driven_turned p e (Some part) begins low ∙ ap (λ (t : ℕ). Some (record { part = part; since = t })) tick);
          goes_on = subst (λ (es : List Event). GoesOnTo w es node stop) (sym (tail_is is)) h.goes_on;
          shows = shows;
        }))
    go more (b ∷ before) is =
        one_right (option_to_list (told_bar w p e)) (bars_from w (after_event p e) events) shape
        (more (
          node,
          part,
          start,
          stop,
          record {
            before = before;
            first = h.first;
            rest = h.rest;
            events_are = tail_is is;
            at = h.at;
            begins = h.begins;
            tick = h.tick;
            goes_on = h.goes_on;
          },
          shows,
        ))

-- nobody drives at the start
pub bars_are_drives : BarsAreDrives
bars_are_drives w events shape few at = (
  λ h. elim (sound w events at_start shape refl at h) [ inl o ↦ absurd (none o.node o.drive o.low o.driven) | inr t ↦ t ],
  λ t. complete_told w events at_start shape refl at t,
)
  where
    none : (node : ℕ) (d : Drive) → node < w.nodes → drive_at at_start node ≡ Some d → ⊥
    none node d low e = absurd (let z = nobody node (omega arith) in let y = sym z ∙ e in cc)
      where
        nobody : (n : ℕ) → n < 32 → drive_at at_start n ≡ None
        nobody n below = Rattle.std.proofs.lemmas.List.get_or-replicate 32 n None None below
