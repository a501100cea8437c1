-- A Data Ack keeps the standing condition: whole units are freed, and what is passed of an unconfirmed one stays behind the start.
-- Assumes nothing.
use mathlib.Core.Path.{◌≡◌, sym, ap, ◌∙◌}
use mathlib.Core.Bool.{Bool, true, false}
use mathlib.Core.List.{List}
use Prim.Native.Nat.{ℕ, ◌+◌, ◌-◌, ◌%◌, ◌≤◌, ◌<◌}
use native.Mathlib.Omega.{arith}
use lib.Dec.{eqb}
use lib.ListN.{get_or, set}
use Rattle.std.specs.Prelude.{if◌then◌else◌}
use Rattle.slots.specs.Ring.{round_of, back_of, cleared}
use Rattle.slots.proofs.RingLaws.{round_lt, round_add, back_lt, forth_back, run_le, cleared_out}
use Rattle.store.proofs.Laws.{last_le}
use Rattle.channel.specs.declared.record.Window.{Window}
use Rattle.channel.specs.declared.record.Channel.{Channel}
use Rattle.channel.specs.declared.step.Stepped.{Stepped}
use Rattle.channel.specs.Record.{sends, opened, with_window, with_marks, with_acked}
use Rattle.channel.specs.Places.{slot_of}
use Rattle.channel.specs.Standing.{oldest_of, Standing}
use Rattle.channel.proofs.StandingLaws.{counted_is, named_is, open_rests}
use Rattle.sender.specs.Directives.{place_at}
use Rattle.sender_acks.specs.Acks.{away_of, recorded, run_at, whole_at, advanced, data_ack_step}
use Rattle.ends.proofs.SenderCases.{data_ack_cases}
use Rattle.ends.proofs.SenderKeeps.{sided_way, open_sided, stand, cleared_fit}
use Rattle.sender.proofs.AskedLaws.{from_oldest}
use Rattle.ends.proofs.KeepsDirectives.{timers_stand, acked_stand}

-- the window n further on, with so many behind it
abbrev onward : Window → ℕ → ℕ → ℕ → Window
onward w place n behind =
    record { start = (w.start + n) % 256; place = place; behind = behind; ahead = w.ahead - n; flight = w.flight - n; way = w.way }

module _ (c : Channel) (lens : List ℕ) (h : Standing c lens) (s : c.addresses.direction ≡ sends) (o : c.phase.state ≡ opened) (n : ℕ)
    (few : n ≤ c.window.flight) where
  -- no unit is confirmed: all that is passed stays
  none_confirmed : Standing (with_marks (with_window c (onward c.window (place_at c n) n (c.window.behind + n))) c.marks) lens
  none_confirmed =
      let w = c.window in
      let slots = c.limits.slots in
      let small = named_is c h.named in
      let k = counted_is c.limits w h.ring h.flight in
      let z = sided_way c.addresses.direction c.phase.state w s h.sided in
      let old = oldest_of slots w in
      let p = back_lt slots w.place w.behind k.place in
      let all : w.behind + n ≤ slots = omega (arith, k.held, k.flight) in
      let same : back_of slots (place_at c n) (w.behind + n) ≡ old =
      ap (λ (x : ℕ). back_of slots x (w.behind + n)) (sym (from_oldest slots w n k.place all)) ∙ forth_back slots old (w.behind + n) p all in
      stand (with_marks (with_window c (onward w (place_at c n) n (w.behind + n))) c.marks) lens h.fit h.count
      (record { addresses = small.addresses; state = small.state; reason = small.reason; kept = small.kept; accepted = small.accepted; control = small.control; pulse = small.pulse })
      (record {
        place = round_lt slots (w.place + n) (omega (arith, k.place, k.held, k.flight));
        held = omega (arith, k.held, k.flight);
        flight = omega (arith, k.flight);
        window = omega (arith, k.window);
        way = omega (arith, z);
        unit = k.unit;
      })
      (open_sided c.addresses.direction c.phase.state (onward w (place_at c n) n (w.behind + n)) s z o)
      (open_rests c.addresses.direction c.phase (onward w (place_at c n) n (w.behind + n)) o)
      (λ i less q. h.held i (omega (arith, k.flight)) (ap (λ (x : ℕ). get_or c.marks (round_of slots (x + i)) 0) (sym same) ∙ q))
      h.slots

  -- the first of those passed are of units that are confirmed: they are freed, with what was behind
  some_confirmed : (done : ℕ) → done ≤ n
      → Standing
      (with_marks (with_window c (onward c.window (place_at c n) n (n - done)))
      (cleared c.marks c.limits.slots (c.window.behind + done) (oldest_of c.limits.slots c.window)))
      lens
  some_confirmed done part =
      let w = c.window in
      let slots = c.limits.slots in
      let small = named_is c h.named in
      let k = counted_is c.limits w h.ring h.flight in
      let z = sided_way c.addresses.direction c.phase.state w s h.sided in
      let old = oldest_of slots w in
      let p = back_lt slots w.place w.behind k.place in
      let all : w.behind + n ≤ slots = omega (arith, k.held, k.flight) in
      let gone = w.behind + done in
      let next = round_of slots (old + gone) in
      let m = cleared c.marks slots gone old in
      let split : gone + (n - done) ≡ w.behind + n = omega arith in
      let at : place_at c n ≡ round_of slots (next + (n - done)) =
      sym (from_oldest slots w n k.place all)
      ∙ ap (λ (x : ℕ). round_of slots (old + x)) (sym split)
      ∙ sym (round_add slots old gone (n - done) (omega arith)) in
      let new : back_of slots (place_at c n) (n - done) ≡ next =
      ap (λ (x : ℕ). back_of slots x (n - done)) at ∙ forth_back slots next (n - done) (round_lt slots (old + gone) (omega arith)) (omega arith) in
      stand (with_marks (with_window c (onward w (place_at c n) n (n - done))) m) lens h.fit h.count
      (record { addresses = small.addresses; state = small.state; reason = small.reason; kept = small.kept; accepted = small.accepted; control = small.control; pulse = small.pulse })
      (record {
        place = round_lt slots (w.place + n) (omega (arith, k.place, k.held, k.flight));
        held = omega (arith, k.held, k.flight);
        flight = omega (arith, k.flight);
        window = omega (arith, k.window);
        way = omega (arith, z);
        unit = k.unit;
      })
      (open_sided c.addresses.direction c.phase.state (onward w (place_at c n) n (n - done)) s z o)
      (open_rests c.addresses.direction c.phase (onward w (place_at c n) n (n - done)) o)
      (λ i less q.
      let far : gone + i < slots = omega (arith, k.held, k.flight) in
      h.held (gone + i) (omega (arith, k.flight))
      (sym (cleared_out c.marks slots gone old (gone + i) p far (omega arith))
      ∙ ap (λ (x : ℕ). get_or m x 0) (sym (round_add slots old gone i (omega arith)))
      ∙ ap (λ (x : ℕ). get_or m (round_of slots (x + i)) 0) (sym new)
      ∙ q))
      (cleared_fit (slot_of c) (eqb c.addresses.direction sends) c.limits.payload c.marks lens slots gone old p h.slots)

advanced_stands : (c : Channel) (lens : List ℕ) → Standing c lens → c.addresses.direction ≡ sends → c.phase.state ≡ opened → Standing (advanced c) lens
unfolding advanced
advanced_stands c lens h s o = go (eqb done 0)
  where
    n : ℕ
    n = run_at c

    done : ℕ
    done = whole_at c

    few : n ≤ c.window.flight
    few = run_le c.acked c.limits.slots c.window.flight c.window.place

    go : (t : Bool)
        → Standing
        (with_marks (with_window c (onward c.window (place_at c n) n (if t then c.window.behind + n else n - done)))
        (if t then c.marks else cleared c.marks c.limits.slots (c.window.behind + done) (oldest_of c.limits.slots c.window)))
        lens
    go true = none_confirmed c lens h s o n few
    go false = some_confirmed c lens h s o n few done (last_le c.marks c.limits.slots n c.window.place)

pub data_ack_stands : (c : Channel) (lens : List ℕ) (number : ℕ) → Standing c lens → c.addresses.direction ≡ sends
    → Standing (data_ack_step c number).channel lens
data_ack_stands c lens number h s =
    data_ack_cases c (λ (s : Stepped). Standing s.channel lens) number h h (λ e. advanced_stands noted lens stands s e)
  where
    noted : Channel
    noted = recorded c (away_of c number)

    stands : Standing noted lens
    stands =
        let acked = set c.acked (place_at c (away_of c number)) 1 in
        timers_stand (with_acked c acked) lens (acked_stand c lens h acked) noted.timers
