-- Of a table that the survey shows to be sound, each record can be counted up once more.
-- Assumes nothing.
use mathlib.Core.Path.{◌≡◌, refl, sym}
use mathlib.Core.Bool.{Bool, true, false, ◌&&◌, true≢false}
use mathlib.Core.List.{List, [], ◌∷◌}
use Prim.Native.Nat.{ℕ, zero, suc, ◌<◌}
use native.Mathlib.Omega.{arith}
use borrow.Author.Tests.{ltb-true}
use lib.Dec.{ltb}
use lib.ListN.{length, get_or}
use Rattle.std.specs.Prelude.{if◌then◌else◌}
use Rattle.walks.specs.Fold.{fold_from}
use Rattle.walks.specs.Sweep.{Every}
use Rattle.walks_sample.specs.declared.plain.Channel.{Channel}
use Rattle.walks_sample.specs.declared.plain.Survey.{Survey}
use Rattle.walks_sample.specs.declared.plain.Request.{Request}
use Rattle.walks_sample.specs.Surveying.{blank, is_low, noted, surveyed}
use Rattle.walks_sample.specs.Serving.{begun, decided}

-- both of two tests held
both : (a b : Bool) → (a && b) ≡ true → (a ≡ true) × (b ≡ true)
both true b e = (refl, e)
both false b e = absurd (true≢false (sym e))

low_each : (lens : List ℕ) (j : ℕ) (v : Survey) (t : List Channel) → (fold_from noted lens j v t).sound ≡ true → (v.sound ≡ true) × Every blank is_low t
unfolding fold_from
low_each lens j v [] e = (e, λ i h. absurd (omega (arith, h)))
low_each lens j v (c ∷ cs) e =
    let p = low_each lens (suc j) (noted v c lens j) cs e in
    let q = both v.sound (ltb c.count 4294967295) p.0 in
    (q.0, go (ltb-true c.count 4294967295 q.1) p.1)
  where
    go : is_low c → Every blank is_low cs → Every blank is_low (c ∷ cs)
    go h each zero l = h
    go h each (suc i) l = each i (omega (arith, l))

pub low : (lens : List ℕ) (v : Survey) (t : List Channel) → (fold_from noted lens 0 v t).sound ≡ true → Every blank is_low t
low lens v t e = (low_each lens 0 v t e).1

-- where an index of the table is served, the table is sound
pub is_sound : (s : Bool) (a n : ℕ) → (if s then a else n) < n → s ≡ true
is_sound true a n h = refl
is_sound false a n h = absurd (omega (arith, h))

-- what the step asks holds of the record that is served
pub may_serve : (t : List Channel) (mem lens lines : List ℕ) (n : Request) (x out : List ℕ)
    → (decided (surveyed t lens (begun lines n x (length out))) (length t) (length mem) (length lens)).at < length t
    → is_low (get_or t (decided (surveyed t lens (begun lines n x (length out))) (length t) (length mem) (length lens)).at blank)
may_serve t mem lens lines n x out h =
    let a : Survey = begun lines n x (length out) in
    let v : Survey = surveyed t lens a in
    low lens a t (is_sound v.sound v.at (length t) h) _ h
