-- The window of 128 (document 02, A1): which windows settings take, where every number lies at 128, that at 64 some lie nowhere, and its numbers.
-- Assumes nothing.
use mathlib.Core.Path.{◌≡◌, refl, ap}
use mathlib.Core.Bool.{Bool, true, false, false≢true}
use mathlib.Core.List.{List, [], ◌∷◌}
use mathlib.Core.Logic.{◌⊎◌}
use Prim.Native.Nat.{ℕ, zero, suc, ◌-◌, ◌≤◌, ◌<◌}
use native.Mathlib.Omega.{arith}
use borrow.Author.Tests.{ltb-false, leb-false}
use lib.Dec.{T, leb, ltb}
use lib.ListN.{replicate}
use Rattle.std.specs.Prelude.{if◌then◌else◌}
use Rattle.laws.proofs.Choice.{either, by_test}
use Rattle.laws.proofs.Numbers.{lt_cases}
use Rattle.slots.specs.Ring.{round_of}
use Rattle.channel.specs.declared.record.Limits.{Limits}
use Rattle.channel.specs.declared.record.Window.{Window}
use Rattle.channel.specs.Answers.{number_of}
use Rattle.channel.specs.Record.{fresh_window, with_window, with_marks}
use Rattle.channel.specs.Settings.{fit_window}
use Rattle.receiver_data.specs.declared.sorting.Sort.{Sort}
use Rattle.receiver_data.specs.declared.sorting.Sort.TheVariants.{New, Held, Behind, Other}
use Rattle.receiver_data.specs.Sorting.{distance, is_held, sort_at}
use Rattle.receiver_data.specs.Moving.{moved_by}
use Rattle.receiver_data.specs.Data.{accept_step, data_step}
use Rattle.ends.proofs.Starred.{open_at, answer_at, Row, is, all_right}

-- ---- which windows settings take

abbrev limits_with : ℕ → Limits
limits_with k = record { window = k; slots = 128; payload = 16; segments = 4; timeout = 4; closing = 4; retries = 2; interval = 0; flow = 0; spare = 0; lead = 0 }

-- those below n, the largest first
unfoldable pub fit_below : ℕ → List ℕ
fit_below zero = []
fit_below (suc k) = if fit_window (limits_with k) then k ∷ fit_below k else fit_below k

-- 'allow k up to 128': with 128 slots these and no others below 300, so neither 96 nor 256
pub windows_allowed : fit_below 300 ≡ 128 ∷ 64 ∷ 32 ∷ 16 ∷ 8 ∷ 4 ∷ 2 ∷ 1 ∷ []
unfolding fit_below fit_window
windows_allowed = refl

-- ---- where a number lies

-- 'At 128 every number is in the window or behind it'
pub in_or_behind : (start number : ℕ) → (distance number start < 128) ⊎ (256 - 128 ≤ distance number start)
in_or_behind start number = lt_cases (distance number start) 128

abbrev is_other : Sort → Bool
is_other New = false
is_other Held = false
is_other Behind = false
is_other Other = true

abbrev Sorted : Sort → Type 0
Sorted s = s ≡ Other → ⊥

-- 'so the "any other" case of document 01 cannot occur'
pub never_other : (l : Limits) (w : Window) (marks : List ℕ) (d : ℕ) → l.window ≡ 128 → Sorted (sort_at l w marks d)
unfolding sort_at
never_other l w marks d k =
    by_test Sorted (ltb d l.window) (if is_held l w marks d then Held else New) (if leb (256 - l.window) d then Behind else Other)
    (λ p. either Sorted (is_held l w marks d) Held New (λ e. false≢true (ap is_other e)) (λ e. false≢true (ap is_other e)))
    (λ p.
    by_test Sorted (leb (256 - l.window) d) Behind Other (λ q e. false≢true (ap is_other e))
    (λ q. absurd (omega (arith, k, ltb-false d l.window p, leb-false (256 - l.window) d q))))

-- 'show that it does at 64': two numbers that lie in neither
pub other_at_64 : (sort_at (limits_with 64) fresh_window [] (distance 65 1) ≡ Other) × (sort_at (limits_with 64) fresh_window [] (distance 192 1) ≡ Other)
unfolding sort_at
other_at_64 = (refl, refl)

-- ---- the numbers of a window of 128

-- the answer to Data with the number of the start, 128 whole units being untaken in 128 slots
abbrev full_answer : ℕ
full_answer =
    number_of
    (data_step (with_marks (with_window (open_at 129 128) (record { start = 129; place = 0; behind = 128; ahead = 0; flight = 0; way = 0 })) (replicate 128 4)) 129 3).answer

-- the answer to segment 1 at start 130, with one whole unit untaken
abbrev untaken_answer : ℕ
untaken_answer =
    number_of
    (data_step (with_marks (with_window (open_at 130 128) (record { start = 130; place = 1; behind = 1; ahead = 0; flight = 0; way = 0 })) (4 ∷ replicate 127 0)) 1 3).answer

-- segment 1 repeated: behind the window at start 129, and one later, with nothing untaken, it would pass as new, which the lateness premise excludes
abbrev wide_rows : List Row
wide_rows =
    is (answer_at 1 128 128) 0
    ∷ is (answer_at 1 128 129) 15
    ∷ is (answer_at 129 128 1) 15
    ∷ is (answer_at 130 128 1) 0
    ∷ is untaken_answer 8
    ∷ is full_answer 8
    ∷ []

pub wide_numbers : T (all_right wide_rows)
unfolding data_step sort_at is_held accept_step moved_by round_of
wide_numbers = tt
