-- Laws of Data: what it answers in each case, and what it leaves in the memory and the lengths.
-- Assumes nothing.
use Rattle.std.proofs.Common.{◌≡◌, ℕ, ◌+◌, ◌*◌, ◌<◌, ◌≤◌, Bool, true, false, List, length, set, sym, ap, ◌∙◌, subst, eq-eqb, ne_eqb, le-leb}
use borrow.Author.Tests.{lt-leb}
use Rattle.std.specs.Prelude.{if◌then◌else◌}
use Rattle.laws.proofs.Choice.{chosen, passed_by}
use Rattle.slots.specs.Slots.{laid}
use Rattle.channel.specs.Places.{slot_of}
use Rattle.channel.specs.declared.record.Channel.{Channel}
use Rattle.channel.specs.declared.answer.Refusal.TheVariants as refusal
use Rattle.channel.specs.Record.{opened, broken_flags, with_window}
use Rattle.channel.specs.Steps.{refusing, doing, failing}
use Rattle.receiver_data.specs.declared.sorting.Sort.{Sort}
use Rattle.receiver_data.specs.declared.sorting.Sort.TheVariants.{New}
use Rattle.receiver_data.specs.declared.moving.Moved.{Moved}
use Rattle.receiver_data.specs.Sorting.{place_at}
use Rattle.receiver_data.specs.Moving.{moved_of}
use Rattle.receiver.specs.Receiving.{ack_length, shut_for}
use Rattle.receiver_data.specs.Data.{moved_answer, marking, accept_step, data_by, away_of, sort_of, data_step, files_by, mem_by, lens_by, is_filed, data_mem, data_lens}
use Rattle.channel.specs.Asked.{Ringed}
use Rattle.receiver_data.proofs.MoveLaws.{move_ringed}

-- ---- a new segment: marked, the start moved, and then one of two answers

module _ (c : Channel) (place flags : ℕ) (k : Channel) (m : Moved) (marked : k ≡ marking c place flags) (moved : m ≡ moved_of c.limits k.marks c.window) where
  accept_settled : accept_step c place flags ≡ moved_answer k m
  unfolding accept_step
  accept_settled =
      ap (λ (x : Channel). moved_answer x (moved_of c.limits x.marks c.window)) (sym marked) ∙ ap (moved_answer k) (sym moved)

  pub accept_breaks : m.broken ≡ true → accept_step c place flags ≡ failing (shut_for (with_window k m.window) broken_flags) broken_flags
  accept_breaks e = accept_settled ∙ chosen m.broken _ _ e

  pub accept_done : (n : ℕ) → m.broken ≡ false → n ≡ ack_length c → accept_step c place flags ≡ doing (with_window k m.window) n
  accept_done n e l =
      let own : ack_length k ≡ n = ap ack_length marked ∙ sym l in
      accept_settled ∙ passed_by m.broken _ _ e ∙ ap (doing (with_window k m.window)) own

module _ (c : Channel) (d : ℕ) where
  pub new_full : (flags : ℕ) → c.limits.slots ≤ c.window.behind + d → data_by New c d flags ≡ refusing c refusal.Full
  new_full flags h = chosen _ _ _ (le-leb _ _ h)

  pub full_mem : (p mem : List ℕ) → c.limits.slots ≤ c.window.behind + d → mem_by New c d p mem ≡ mem
  full_mem p mem h = simp (le-leb _ _ h)

  pub full_lens : (p lens : List ℕ) → c.limits.slots ≤ c.window.behind + d → lens_by New c d p lens ≡ lens
  full_lens p lens h = simp (le-leb _ _ h)

  pub new_accepted : (flags : ℕ) → c.window.behind + d < c.limits.slots → data_by New c d flags ≡ accept_step c (place_at c.limits c.window d) flags
  new_accepted flags h = passed_by _ _ _ (lt-leb _ _ h)

  pub new_mem : (p mem : List ℕ) → c.window.behind + d < c.limits.slots → mem_by New c d p mem ≡ laid mem (slot_of c (place_at c.limits c.window d) * c.limits.payload) p
  new_mem p mem h = simp (lt-leb _ _ h)

  pub new_lens : (p lens : List ℕ) → c.window.behind + d < c.limits.slots → lens_by New c d p lens ≡ set lens (slot_of c (place_at c.limits c.window d)) (length p)
  new_lens p lens h = simp (lt-leb _ _ h)

-- ---- Data: not in OPEN, and in OPEN by its sort

module _ (c : Channel) (number : ℕ) (h : c.phase.state ≡ opened → ⊥) where
  pub data_state : (flags : ℕ) → data_step c number flags ≡ refusing c refusal.State
  unfolding data_step
  data_state flags = simp (ne_eqb _ _ h)

  not_filed : is_filed c number ≡ false
  unfolding is_filed
  not_filed = simp (ne_eqb _ _ h)

  pub state_mem : (p mem : List ℕ) → data_mem c number p mem ≡ mem
  unfolding data_mem
  state_mem p mem = passed_by (is_filed c number) _ _ not_filed

  pub state_lens : (p lens : List ℕ) → data_lens c number p lens ≡ lens
  unfolding data_lens
  state_lens p lens = passed_by (is_filed c number) _ _ not_filed

module _ (c : Channel) (number : ℕ) (s : Sort) (h : c.phase.state ≡ opened) (e : sort_of c number ≡ s) where
  pub data_by_lem : (flags : ℕ) → data_step c number flags ≡ data_by s c (away_of c number) flags
  unfolding data_step
  data_by_lem flags = simp (eq-eqb _ _ h) (ap (λ (x : Sort). data_by x c (away_of c number) flags) e)

  filed_by_lem : is_filed c number ≡ files_by s c (away_of c number)
  unfolding is_filed
  filed_by_lem = simp (eq-eqb _ _ h) (ap (λ (x : Sort). files_by x c (away_of c number)) e)

  pub mem_by_lem : (p mem : List ℕ) → data_mem c number p mem ≡ mem_by s c (away_of c number) p mem
  unfolding data_mem
  mem_by_lem p mem = ap (λ (t : Bool). if t then laid mem (slot_of c (place_at c.limits c.window (away_of c number)) * c.limits.payload) p else mem) filed_by_lem

  pub lens_by_lem : (p lens : List ℕ) → data_lens c number p lens ≡ lens_by s c (away_of c number) p lens
  unfolding data_lens
  lens_by_lem p lens = ap (λ (t : Bool). if t then set lens (slot_of c (place_at c.limits c.window (away_of c number))) (length p) else lens) filed_by_lem

-- after a segment is marked
pub marked_ringed : (c : Channel) (place flags : ℕ) (k : Channel) (m : Moved) → k ≡ marking c place flags → m ≡ moved_of c.limits k.marks c.window
    → Ringed c.limits c.window
    → Ringed k.limits m.window
marked_ringed c place flags k m ek em r =
    let same : Ringed c.limits m.window = subst (λ (x : Moved). Ringed c.limits x.window) (sym em) (move_ringed c.limits k.marks c.window r) in
    subst (λ (x : Channel). Ringed x.limits m.window) (sym ek) same
