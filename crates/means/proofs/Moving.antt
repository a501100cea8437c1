-- The start moves past the same segments in the record as in the protocol, up to the same break. The record's move ends where every slot is kept, the
-- protocol's after a window: no segment is accepted past either.
-- Assumes nothing.
use mathlib.Core.Path.{◌≡◌, refl, sym, ap, ap₂, ◌∙◌, subst, subst₂}
use mathlib.Core.Bool.{Bool, true, false, not, ◌&&◌, ◌||◌}
use mathlib.Core.List.{List, [], ◌∷◌, ◌++◌}
use mathlib.Core.Option.{Option, none, some}
use Prim.Native.Nat.{ℕ, zero, suc, ◌+◌, ◌%◌, ◌≤◌, ◌<◌}
use native.Mathlib.Numerals.{add-one}
use native.Mathlib.Omega.{arith}
use borrow.Author.Tests.{ltb-true, ltb-false}
use lib.Dec.{ltb, eqb}
use lib.ListN.{length, get_or, get_or-append}
use lib.Seq.{get_or-append_seam}
use Rattle.laws.specs.Choice.{if◌then◌else◌}
use Rattle.laws.proofs.Lists.{length_snoc}
use Rattle.slots.specs.Ring.{round_of}
use Rattle.slots.proofs.RingLaws.{round_lt, back_forth}
use Rattle.slots.specs.Marks.{begins, ends}
use Rattle.channel.specs.declared.record.Window.{Window}
use Rattle.channel.specs.declared.record.Channel.{Channel}
use Rattle.channel.specs.Record.{with_window}
use Rattle.receiver_data.specs.declared.moving.Moved.{Moved}
use Rattle.receiver_data.specs.Moving as window
use Rattle.receiver_data.specs.Moving.{passed, moved_by}
use Rattle.receiver_data.proofs.MoveLaws.{move_stop, move_break, move_step}
use Rattle.ends.proofs.Rings.{back_next}
use Rattle.protocol.specs.Numbers.{number_at}
use Rattle.protocol.specs.Units.{Segment, blank, on_way, fitting}
use Rattle.protocol.specs.Receiving.{moved_past, moved}
use Rattle.means.specs.Held.{octets_at}
use Rattle.means.specs.Meaning.{limits_of, segment_by, lying}
use Rattle.means.proofs.Wholes.{on_way_snoc}
use Rattle.means.proofs.ReceiverPlaces.{none_unmarked, some_marked, some_is}
use Rattle.means.proofs.Receives.{Within}

-- the flags that may come next are the same
fitting_same : (most way mark : ℕ) (octets : List ℕ) → window.fitting most way mark ≡ fitting most way (segment_by mark octets)
unfolding window.fitting
fitting_same most way mark octets =
    ap (λ (n : ℕ). (if eqb way 0 then begins mark else not (begins mark)) && (ends mark || ltb n most)) (add-one way)

module _ (k : Channel) (mem lens : List ℕ) (base : ℕ) (f : ℕ → Option Segment) where
  abbrev slots : ℕ
  slots = k.limits.slots

  abbrev At : Window → List Segment → Type 0
  At w l = Within (with_window k w) mem lens base l f

  -- what lies at the start
  here : (w : Window) (l : List Segment) → w.place < slots → w.behind < slots → At w l → lying (with_window k w) mem lens w.place ≡ f (length l)
  here w l on less a =
      let sum : base + w.behind ≡ length l = omega (arith, a.behind) in
      ap (lying (with_window k w) mem lens) (sym (back_forth slots w.place w.behind on (omega arith)))
      ∙ a.view w.behind less
      ∙ ap f sum

  -- the start past one segment
  pass : (w : Window) (l : List Segment) (g : Segment) → w.place < slots → w.behind < slots → At w l → f (length l) ≡ some g → g.last ≡ ends (get_or k.marks w.place 0)
      → At (passed slots w (get_or k.marks w.place 0)) (l ++ (g ∷ []))
  unfolding number_at lying
  pass w l g on less a e last =
      let long : length (l ++ (g ∷ [])) ≡ suc (length l) = length_snoc l g in
      let mark = get_or k.marks w.place 0 in
      record {
        start = ap (λ (n : ℕ). (n + 1) % 256) a.start ∙ omega arith;
        behind = omega (arith, a.behind);
        way =
            ap₂ (λ (t : Bool) (n : ℕ). if t then 0 else n) (sym last) (add-one w.way ∙ ap suc a.way)
            ∙ sym (on_way_snoc 0 l g);
        view = λ j h.
            ap (λ (n : ℕ). lying (with_window k w) mem lens (round_of slots (n + j))) (back_next slots w.place w.behind on less)
            ∙ a.view j h;
        room = a.room;
        near = λ i x q. omega (arith, a.near i x q);
        known = λ i h.
            let go = λ (b : Bool). elim b as (λ b. ltb i (length l) ≡ b → f i ≡ some (get_or (l ++ (g ∷ [])) i blank)) [
              | true ↦ λ t. a.known i (ltb-true i (length l) t) ∙ ap some (sym (get_or-append l (g ∷ []) blank i (ltb-true i (length l) t)))
              | false ↦ λ t.
                  let q : length l ≤ i = ltb-false i (length l) t in
                  let z : i ≡ length l = omega arith in
                  rw z (e ∙ ap some (sym (get_or-append_seam l g [] blank)))
            ]
            in go (ltb i (length l)) refl;
        count = a.count;
      }

  -- both moves ended at the same segment, with a break or both without
  pub record Ended (m : Moved) (x : List Segment × Bool) : Type 0 where
    pub at : At m.window x.0
    pub same : m.broken ≡ not x.1

  -- in the protocol the move ends where nothing is accepted
  ends_here : (n : ℕ) (l : List Segment) → f (length l) ≡ none → moved (limits_of k.limits) n f l ≡ (l, true)
  ends_here zero l e = refl
  ends_here (suc n) l e =
      ap (λ (o : Option Segment). moved_past (limits_of k.limits) o (λ g. moved (limits_of k.limits) n f (l ++ (g ∷ []))) l) e

  abbrev Goal : ℕ → ℕ → Window → List Segment → Type 0
  Goal n m w l = Ended (moved_by slots k.limits.segments k.marks n w) (moved (limits_of k.limits) m f l)

  stopped : (n m : ℕ) (w : Window) (l : List Segment) → At w l → f (length l) ≡ none
      → moved_by slots k.limits.segments k.marks n w ≡ record { window = w; broken = false }
      → Goal n m w l
  stopped n m w l a e stop =
      subst₂ Ended (sym stop) (sym (ends_here m l e)) (record { at = a; same = refl })

  pub moved_within : (n m : ℕ) (w : Window) (l : List Segment) → w.place < slots → n + w.behind ≡ slots → At w l
      → ((i : ℕ) (g : Segment) → f i ≡ some g → i < length l + m)
      → Goal n m w l
  unfolding moved_by
  moved_within zero m w l on full a top =
      let past = λ (o : Option Segment). elim o as (λ o. f (length l) ≡ o → f (length l) ≡ none) [
        | none ↦ λ e. e
        | some g ↦ λ e. absurd (let z : length l < base + slots = a.room (length l) g e in omega (arith, a.behind))
      ]
      in stopped zero m w l a (past (f (length l)) refl) refl
  moved_within (suc n) m w l on full a top =
      let less : w.behind < slots = omega arith in
      let c = with_window k w in
      let mark = get_or k.marks w.place 0 in
      let lies : lying c mem lens w.place ≡ f (length l) = here w l on less a in
      let goes = λ (m : ℕ). elim m as
      (λ m. ((i : ℕ) (g : Segment) → f i ≡ some g → i < length l + m) → (g : Segment) → f (length l) ≡ some g → Goal (suc n) m w l) [
        | zero ↦ λ top g e. absurd (let z : length l < length l + 0 = top (length l) g e in omega arith)
        | suc m ↦ λ top g e.
            let used : mark ≡ 0 → ⊥ = some_marked c mem lens w.place g (lies ∙ e) in
            let is : g ≡ segment_by mark (octets_at c mem lens w.place) = some_is c mem lens w.place g (lies ∙ e) in
            let fits : window.fitting k.limits.segments w.way mark ≡ fitting k.limits.segments (on_way 0 l) g
            = fitting_same k.limits.segments w.way mark (octets_at c mem lens w.place)
            ∙ ap₂ (fitting k.limits.segments) a.way (sym is)
            in
            let step : moved (limits_of k.limits) (suc m) f l ≡ (if fitting k.limits.segments (on_way 0 l) g then moved (limits_of k.limits) m f (l ++ (g ∷ [])) else (l, false))
            = ap (λ (o : Option Segment). moved_past (limits_of k.limits) o (λ g. moved (limits_of k.limits) m f (l ++ (g ∷ []))) l) e
            in
            let next = passed slots w mark in
            let by = λ (b : Bool). elim b as
            (λ b. fitting k.limits.segments (on_way 0 l) g ≡ b
            → Ended
            (moved_by slots k.limits.segments k.marks (suc n) w)
            (if b then moved (limits_of k.limits) m f (l ++ (g ∷ [])) else (l, false))) [
              | true ↦ λ t.
                  subst (λ (x : Moved). Ended x (moved (limits_of k.limits) m f (l ++ (g ∷ []))))
                  (sym (move_step slots k.limits.segments k.marks w n used (fits ∙ t)))
                  (moved_within n m next (l ++ (g ∷ [])) (round_lt slots (w.place + 1) (omega arith)) (omega arith)
                  (pass w l g on less a e (ap (λ (s : Segment). s.last) is))
                  (λ i x q. omega (arith, top i x q, length_snoc l g)))
              | false ↦ λ t.
                  subst (λ (x : Moved). Ended x (l, false))
                  (sym (move_break slots k.limits.segments k.marks w n used (fits ∙ t)))
                  (record { at = a; same = refl })
            ]
            in subst (Ended (moved_by slots k.limits.segments k.marks (suc n) w)) (sym step) (by (fitting k.limits.segments (on_way 0 l) g) refl)
      ]
      in
      let at = λ (o : Option Segment). elim o as (λ o. f (length l) ≡ o → Goal (suc n) m w l) [
        | none ↦ λ e.
            stopped (suc n) m w l a e (move_stop slots k.limits.segments k.marks w (suc n) (none_unmarked c mem lens w.place (lies ∙ e)))
        | some g ↦ λ e. goes m top g e
      ]
      in at (f (length l)) refl
