-- Laws of the standing condition: slot by slot, and from the test to the facts and back.
-- Assumes nothing.
use Rattle.std.proofs.Common.{◌≡◌, ℕ, zero, suc, ◌+◌, ◌-◌, ◌<◌, ◌≤◌, Bool, true, false, not, ◌&&◌, ◌||◌, eqb, List, length, get_or, sym, refl, ap, ◌∙◌, true≢false, suc-le-suc, zero-le, le_of_suc-le-suc, not-suc-le-zero, add-zero, lt_irrefl, add-suc, zero-add, arith, ltb-true, lt-ltb, eq-eqb, ne_eqb, eqb-true, le-leb, leb-true}
use mathlib.Core.Bool.{and_assoc, or-true}
use borrow.Author.Tests.{eqb-false}
use Rattle.channel.specs.Places.{slot_of}
use Rattle.slots.specs.Ring.{run_of}
use Rattle.slots.proofs.RingLaws.{back_lt, run_set, run_is}
use Rattle.channel.specs.declared.record.Channel.{Channel}
use Rattle.channel.specs.Record.{sends, receives, closed, opened, lone_none, held_in}
use Rattle.laws.proofs.Choice.{both, either, either_way}
use Rattle.channel.specs.declared.record.Limits.{Limits}
use Rattle.channel.specs.declared.record.Phase.{Phase}
use Rattle.channel.specs.declared.record.Pulse.{Pulse}
use Rattle.channel.specs.declared.record.Window.{Window}
use Rattle.channel.specs.Standing.{named, in_ring, in_flight, asking, rested, marked, oldest_of, slot_fit, slots_fit, standing, Standing, Counted}
use Rattle.channel.specs.Asked.{Ringed}
use Rattle.channel.specs.Prefixes.{fit_prefix}
use Rattle.channel.specs.Settings.{fit_addresses}
use Rattle.channel.proofs.SettingsLaws.{fit_is, own_fit}

module _ (slot : ℕ → ℕ) (sending : Bool) (most : ℕ) (marks lens : List ℕ) where
  pub slots_none : (n i : ℕ) → n ≤ i → slots_fit slot sending most marks lens (n - i) i ≡ true
  unfolding slots_fit
  slots_none n i h = let e : n - i ≡ 0 = omega arith in rw e

  -- the first, and then the others
  pub slots_next : (n i : ℕ) → i < n
      → slots_fit slot sending most marks lens (n - i) i ≡ (slot_fit sending most (get_or marks i 0) (get_or lens (slot i) 0) && slots_fit slot sending most marks lens (n - (i + 1)) (i + 1))
  unfolding slots_fit
  slots_next n i l = let e : n - i ≡ suc (n - (i + 1)) = omega arith in rw e refl

-- so many places fit, and those behind them: the first, and then the others
pub slots_split : (slot : ℕ → ℕ) (sending : Bool) (most : ℕ) (marks lens : List ℕ) (m n i : ℕ)
    → slots_fit slot sending most marks lens (m + n) i ≡ (slots_fit slot sending most marks lens m i && slots_fit slot sending most marks lens n (i + m))
unfolding slots_fit
slots_split slot sending most marks lens zero n i = rw (zero-add n, add-zero i)
slots_split slot sending most marks lens (suc m) n i =
    let e : suc m + n ≡ suc (m + n) = omega arith in
    let p : i + 1 + m ≡ i + suc m = omega (arith, add-suc i m) in
    let rest = slots_split slot sending most marks lens m n (i + 1) in
    rw (e, rest, p) (sym (and_assoc (slot_fit sending most (get_or marks i 0) (get_or lens (slot i) 0)) (slots_fit slot sending most marks lens m (i + 1)) _))

-- from the i-th place on, up to the j-th, and then up to the n-th
pub slots_on : (slot : ℕ → ℕ) (sending : Bool) (most : ℕ) (marks lens : List ℕ) (n i j : ℕ) → i ≤ j → j ≤ n
    → slots_fit slot sending most marks lens (n - i) i ≡ (slots_fit slot sending most marks lens (j - i) i && slots_fit slot sending most marks lens (n - j) j)
slots_on slot sending most marks lens n i j a b =
    let e : n - i ≡ j - i + (n - j) = omega arith in
    let p : i + (j - i) ≡ j = omega arith in
    ap (λ (k : ℕ). slots_fit slot sending most marks lens k i) e
    ∙ slots_split slot sending most marks lens (j - i) (n - j) i
    ∙ ap (λ (k : ℕ). slots_fit slot sending most marks lens (j - i) i && slots_fit slot sending most marks lens (n - j) k) p

-- every slot fits exactly if each does
pub slots_each : (slot : ℕ → ℕ) (sending : Bool) (most : ℕ) (marks lens : List ℕ) (n i : ℕ)
    → slots_fit slot sending most marks lens n i ≡ true
    → (k : ℕ) → k < n → slot_fit sending most (get_or marks (i + k) 0) (get_or lens (slot (i + k)) 0) ≡ true
unfolding slots_fit
slots_each slot sending most marks lens zero i e k h = absurd (not-suc-le-zero h)
slots_each slot sending most marks lens (suc n) i e zero h =
    ap (λ (j : ℕ). slot_fit sending most (get_or marks j 0) (get_or lens (slot j) 0)) (add-zero i) ∙ (both _ _ e).0
slots_each slot sending most marks lens (suc n) i e (suc k) h =
    let p : i + suc k ≡ i + 1 + k = omega (arith, add-suc i k) in
    ap (λ (j : ℕ). slot_fit sending most (get_or marks j 0) (get_or lens (slot j) 0)) p
    ∙ slots_each slot sending most marks lens n (i + 1) (both (slot_fit sending most (get_or marks i 0) (get_or lens (slot i) 0)) _ e).1 k (le_of_suc-le-suc h)

pub slots_all : (slot : ℕ → ℕ) (sending : Bool) (most : ℕ) (marks lens : List ℕ) (n i : ℕ)
    → ((k : ℕ) → k < n → slot_fit sending most (get_or marks (i + k) 0) (get_or lens (slot (i + k)) 0) ≡ true)
    → slots_fit slot sending most marks lens n i ≡ true
unfolding slots_fit
slots_all slot sending most marks lens zero i f = refl
slots_all slot sending most marks lens (suc n) i f =
    let here : slot_fit sending most (get_or marks i 0) (get_or lens (slot i) 0) ≡ true =
    ap (λ (j : ℕ). slot_fit sending most (get_or marks j 0) (get_or lens (slot j) 0)) (sym (add-zero i)) ∙ f 0 (suc-le-suc zero-le) in
    let rest : slots_fit slot sending most marks lens n (i + 1) ≡ true =
    slots_all slot sending most marks lens n (i + 1)
    (λ k h.
    let p : i + 1 + k ≡ i + suc k = omega (arith, add-suc i k) in
    ap (λ (j : ℕ). slot_fit sending most (get_or marks j 0) (get_or lens (slot j) 0)) p ∙ f (suc k) (suc-le-suc h)) in
    simp (here, rest)

-- ---- from the test to the facts

pub ring_is : (l : Limits) (w : Window) → in_ring l w ≡ true → (w.place < l.slots) × (w.behind ≤ l.slots) × (w.ahead ≤ l.slots - w.behind)
unfolding in_ring
ring_is l w e =
    let p = both _ _ e in
    let q = both _ _ p.0 in
    (ltb-true _ _ q.0, leb-true _ _ q.1, leb-true _ _ p.1)

pub ring_held : (l : Limits) (w : Window) → in_ring l w ≡ true → held_in w ≤ l.slots
ring_held l w e = let q = ring_is l w e in omega arith

pub counted_is : (l : Limits) (w : Window) → in_ring l w ≡ true → in_flight l w ≡ true → Counted l w
unfolding in_flight
counted_is l w r f =
    let q = ring_is l w r in
    let p = both _ _ f in
    let p2 = both _ _ p.0 in
    let p3 = both _ _ p2.0 in
    record {
      place = q.0;
      held = ring_held l w r;
      flight = leb-true _ _ p3.0;
      window = leb-true _ _ p3.1;
      way = leb-true _ _ p2.1;
      unit = ltb-true _ _ p.1;
    }

-- and back
pub counted_ring : (l : Limits) (w : Window) → Counted l w → in_ring l w ≡ true
unfolding in_ring
counted_ring l w k =
    simp (
      lt-ltb w.place l.slots k.place,
      le-leb w.behind l.slots (omega (arith, k.held)),
      le-leb w.ahead (l.slots - w.behind) (omega (arith, k.held)),
    )

pub counted_flight : (l : Limits) (w : Window) → Counted l w → in_flight l w ≡ true
unfolding in_flight
counted_flight l w k =
    simp (
      le-leb w.flight w.ahead k.flight,
      le-leb w.flight l.window k.window,
      le-leb w.way w.behind k.way,
      lt-ltb w.way l.segments k.unit,
    )

-- the states of the packets that an OPEN end sends alone
pub record Sane (p : Pulse) : Type 0 where
  pub beat : p.beat.state ≤ 3
  pub flow : p.flow.packet.state ≤ 3

-- the small numbers
pub record Named (c : Channel) : Type 0 where
  pub addresses : fit_addresses c.addresses ≡ true
  pub state : c.phase.state ≤ 3
  pub reason : c.phase.reason ≤ 6
  pub kept : c.phase.kept ≤ 1
  pub accepted : c.phase.accepted ≤ 1
  pub control : c.phase.control.state ≤ 3
  pub pulse : Sane c.pulse

pub named_is : (c : Channel) → named c ≡ true → Named c
unfolding named
named_is c e =
    let n7 = both _ _ e in
    let n6 = both _ _ n7.0 in
    let n5 = both _ _ n6.0 in
    let n4 = both _ _ n5.0 in
    let n3 = both _ _ n4.0 in
    let n2 = both _ _ n3.0 in
    let n1 = both _ _ n2.0 in
    record {
      addresses = n1.0;
      state = leb-true _ _ n1.1;
      reason = leb-true _ _ n2.1;
      kept = leb-true _ _ n3.1;
      accepted = leb-true _ _ n4.1;
      control = leb-true _ _ n5.1;
      pulse = record { beat = leb-true _ _ n6.1; flow = leb-true _ _ n7.1 };
    }

pub is_named_lem : (c : Channel) → Named c → named c ≡ true
unfolding named
is_named_lem c n =
    simp (
      n.addresses,
      le-leb _ _ n.state,
      le-leb _ _ n.reason,
      le-leb _ _ n.kept,
      le-leb _ _ n.accepted,
      le-leb _ _ n.control,
      le-leb _ _ n.pulse.beat,
      le-leb _ _ n.pulse.flow,
    )

-- the own prefix of a record that stands is fit
pub own_fits : (c : Channel) (lens : List ℕ) → Standing c lens → fit_prefix c.addresses.own ≡ true
own_fits c lens h = own_fit c.addresses (named_is c h.named).addresses

-- ---- out of OPEN

-- a sender that has its Open or Close, or is CLOSED, and every receiver
pub asking_has : (direction : ℕ) (p : Phase) → (p.control.state ≡ lone_none → ⊥) → asking direction p ≡ true
unfolding asking
asking_has direction p h = rw (ne_eqb p.control.state lone_none h) (or-true (not (eqb direction sends) || eqb p.state closed))

pub asking_closed : (direction : ℕ) (p : Phase) → p.state ≡ closed → asking direction p ≡ true
unfolding asking
asking_closed direction p h = rw (eq-eqb p.state closed h, or-true (not (eqb direction sends))) refl

pub asking_receives : (direction : ℕ) (p : Phase) → direction ≡ receives → asking direction p ≡ true
unfolding asking
asking_receives direction p h = simp (ne_eqb direction sends (λ z. omega arith))

pub open_rests : (direction : ℕ) (p : Phase) (w : Window) → p.state ≡ opened → rested direction p w ≡ true
unfolding rested
open_rests direction p w h = simp (eq-eqb p.state opened h)

pub rests : (direction : ℕ) (p : Phase) (w : Window) → w.start ≡ 1 → w.way ≡ 0 → asking direction p ≡ true → rested direction p w ≡ true
unfolding rested
rests direction p w s z a =
    simp (eq-eqb w.start 1 s, eq-eqb w.way 0 z, a) (either (λ (b : Bool). b ≡ true) (eqb p.state opened) true true refl refl)

pub rested_is : (direction : ℕ) (p : Phase) (w : Window) → (p.state ≡ opened → ⊥) → rested direction p w ≡ true
    → (w.start ≡ 1) × (w.way ≡ 0) × (asking direction p ≡ true)
unfolding rested
rested_is direction p w n r =
    let q = both (eqb w.start 1 && eqb w.way 0) _ (simp (ne_eqb p.state opened n) at r) in
    let m = both (eqb w.start 1) _ q.0 in
    (eqb-true _ _ m.0, eqb-true _ _ m.1, q.1)

-- it stays so while the state, the start and what is on the way stay, and a packet that is there is not gone
module _ (direction : ℕ) (p q : Phase) (same : q.state ≡ p.state) (there : (p.control.state ≡ lone_none → ⊥) → q.control.state ≡ lone_none → ⊥) where
  asking_on : asking direction p ≡ true → asking direction q ≡ true
  unfolding asking
  asking_on a = go (eqb direction sends) refl (eqb p.state closed) refl (eqb p.control.state lone_none) refl
    where
      go : (d : Bool) → eqb direction sends ≡ d → (s : Bool) → eqb p.state closed ≡ s → (l : Bool) → eqb p.control.state lone_none ≡ l
          → asking direction q ≡ true
      go false d s e l f = simp d
      go true d true e l f = asking_closed direction q (same ∙ eqb-true _ _ e)
      go true d false e false f = asking_has direction q (there (eqb-false _ _ f))
      go true d false e true f = absurd (true≢false (sym (simp (d, e, f) at a)))

  pub rested_on : (v w : Window) → w.start ≡ v.start → w.way ≡ v.way → rested direction p v ≡ true → rested direction q w ≡ true
  rested_on v w starts ways r =
      either_way (eqb p.state opened) (λ e. open_rests direction q w (same ∙ eqb-true _ _ e))
      (λ e. let n = rested_is direction p v (eqb-false _ _ e) r in rests direction q w (starts ∙ n.0) (ways ∙ n.1) (asking_on n.2))

-- what the steps ask of the numbers
pub ringed : (c : Channel) (lens : List ℕ) → Standing c lens → Ringed c.limits c.window
ringed c lens h =
    let f = fit_is c.limits h.fit in
    let n = counted_is c.limits c.window h.ring h.flight in
    record {
      window = f.window;
      most = f.most;
      octet = f.octet;
      payload = f.payload;
      segments = f.segments;
      place = n.place;
      behind = omega (arith, n.held);
      ahead = omega (arith, n.held);
      flight = n.flight;
      way = n.way;
    }

pub stands_is : (c : Channel) (lens : List ℕ) → standing c lens ≡ true → Standing c lens
unfolding standing marked
stands_is c lens e =
    let l = c.limits in
    let w = c.window in
    let p8 = both _ _ e in
    let p7 = both _ _ p8.0 in
    let p6 = both _ _ p7.0 in
    let p5 = both _ _ p6.0 in
    let p4 = both _ _ p5.0 in
    let p3 = both _ _ p4.0 in
    let p2 = both _ _ p3.0 in
    let p1 = both _ _ p2.0 in
    let ring : in_ring l w ≡ true = p3.1 in
    let count : length lens ≡ l.slots = eqb-true _ _ p1.1 in
    let q = ring_is l w ring in
    let run : run_of c.marks l.slots (held_in w) (oldest_of l.slots w) ≡ held_in w = eqb-true _ _ p7.1 in
    record {
      fit = p1.0;
      count = count;
      named = p2.1;
      ring = ring;
      flight = p4.1;
      sided = p5.1;
      rested = p6.1;
      held = λ i h. run_set c.marks l.slots (held_in w) (oldest_of l.slots w) i (back_lt l.slots w.place w.behind q.0) (omega arith) (omega arith);
      slots = λ i h.
          ap (λ (j : ℕ). slot_fit (eqb c.addresses.direction sends) l.payload (get_or c.marks j 0) (get_or lens (slot_of c j) 0)) (sym (zero-add i))
          ∙ slots_each (slot_of c) (eqb c.addresses.direction sends) l.payload c.marks lens l.slots 0 p8.1 i (omega arith);
    }

-- ---- and back: true exactly if it holds

pub is_stands : (c : Channel) (lens : List ℕ) → Standing c lens → standing c lens ≡ true
unfolding standing marked
is_stands c lens h =
    let l = c.limits in
    let w = c.window in
    let q = ring_is l w h.ring in
    let run : run_of c.marks l.slots (held_in w) (oldest_of l.slots w) ≡ held_in w =
    run_is c.marks l.slots (held_in w) (oldest_of l.slots w) (held_in w) (back_lt l.slots w.place w.behind q.0) (omega arith) (omega arith) h.held
    (λ more. absurd (lt_irrefl _ more)) in
    let all : slots_fit (slot_of c) (eqb c.addresses.direction sends) l.payload c.marks lens l.slots 0 ≡ true =
    slots_all (slot_of c) (eqb c.addresses.direction sends) l.payload c.marks lens l.slots 0
    (λ k less. ap (λ (j : ℕ). slot_fit (eqb c.addresses.direction sends) l.payload (get_or c.marks j 0) (get_or lens (slot_of c j) 0)) (zero-add k) ∙ h.slots k (omega (arith, h.count))) in
    simp (h.fit, eq-eqb _ _ h.count, h.named, h.ring, h.flight, h.sided, h.rested, eq-eqb _ _ run, all)
