-- The channel that is watched, through a call that serves one channel: it is as it was, since the call refuses or serves another, or it is as its
-- own step leaves it.
-- Assumes nothing.
use mathlib.Core.Path.{◌≡◌, refl, sym, ◌∙◌, subst}
use mathlib.Core.Bool.{Bool, true, false}
use mathlib.Core.List.{List}
use Prim.Native.Nat.{ℕ, ◌<◌}
use borrow.Author.Tests.{eqb-true, eqb-false, lt-ltb, ltb-true}
use lib.Dec.{eqb}
use lib.ListN.{length}
use Rattle.walks.specs.Serving.{Worked, Called}
use Rattle.channel.specs.declared.record.Channel.{Channel}
use Rattle.channel.specs.declared.answer.Answer.{Answer}
use Rattle.channel.specs.declared.answer.Answer.TheVariants.{Refused}
use Rattle.channel.specs.declared.answer.Refusal.{Refusal}
use Rattle.channel.specs.declared.answer.Refusal.TheVariants as refusal
use Rattle.channel.specs.declared.step.Stepped.{Stepped}
use Rattle.table.specs.Waiting.{rank_in}
use Rattle.table.specs.declared.looking.Look.{Look}
use Rattle.table.specs.declared.looking.Sought.{Sought}
use Rattle.table.specs.Looking.{Chosen, is_found, missing, chosen as choice}
use Rattle.table.specs.Lent.{passes}
use Rattle.table.specs.Serving.{record_at, own_mem, own_lens, Step, stored, serve_one, index_served}
use Rattle.table.proofs.ServeLaws.{Lawful, passing_is, found_below}
use Rattle.keeps.specs.Keeping.{Given}
use Rattle.keeps.proofs.Serving.{serve_unlawful, serve_missing, serve_found, given}
use Rattle.keeps.proofs.Alone.{Shaped, Shapes, stored_others, stored_record, stored_mem, stored_lens}

-- an answer, a buffer, and a channel with its octets and lengths
abbrev pub View : Type 1
View = Answer → List ℕ → Channel → List ℕ → List ℕ → Type 0

-- what a call leaves, seen at the channel with index i
abbrev pub Seen : View → ℕ → Called Answer Channel → Type 0
Seen P i g = P g.answer g.out (record_at g.table i) (own_mem g.table i g.mem) (own_lens g.table i g.lens)

-- what its step leaves
abbrev pub Left : View → Worked Stepped → Type 0
Left P w = P w.made.answer w.out w.made.channel w.mem w.lens

-- three parts of a view are equal to others
shift : (P : View) (r : Answer) (o : List ℕ) {c d : Channel} {m n l k : List ℕ} → d ≡ c → n ≡ m → k ≡ l → P r o c m l → P r o d n k
shift P r o {c = c} {d = d} {m = m} {n = n} {l = l} {k = k} e f g x =
    subst (λ (z : Channel). P r o z n k) (sym e) (subst (λ (z : List ℕ). P r o c z k) (sym f) (subst (λ (z : List ℕ). P r o c m z) (sym g) x))

module _ (P : View) (t : List Channel) (mem lens lines : List ℕ) (h : Lawful t mem lens) where
  -- the record that is stored is what the step left
  stored_own : (sought : Sought) (x : Chosen) → x.at < length t → (w : Worked Stepped) → Shaped (record_at t x.at) w → Left P w
      → Seen P x.at (stored sought t mem lens lines x w)
  unfolding stored
  stored_own sought x below w k y =
      shift P w.made.answer w.out (stored_record t mem lens lines h sought x below w k) (stored_mem t mem lens lines h sought x below w k) (stored_lens t mem lens lines h sought x below w k) y

  -- every other is as it was
  stored_other : (sought : Sought) (i : ℕ) (x : Chosen) → i < length t → x.at < length t → (i ≡ x.at → ⊥) → (w : Worked Stepped) → Shaped (record_at t x.at) w
      → P w.made.answer w.out (record_at t i) (own_mem t i mem) (own_lens t i lens) → Seen P i (stored sought t mem lens lines x w)
  unfolding stored
  stored_other sought i x below there apart w k y =
      let o = stored_others t mem lens lines h sought x there w k in
      shift P w.made.answer w.out (o.records i apart) (o.octets i below apart) (o.lengths i below apart) y

module _ (look : Look) (step : Step) (t : List Channel) (mem lens lines out : List ℕ) (shapes : Shapes look step out) (i : ℕ) (below : i < length t) where
  -- the step of the channel with index j
  abbrev pub worked_at : ℕ → Worked Stepped
  worked_at j = step (record_at t j) (rank_in (choice look lines t).grade) (own_mem t j mem) (own_lens t j lens) out

  abbrev pub GivenAt : ℕ → Type 0
  GivenAt j = Given look j (rank_in (choice look lines t).grade) (record_at t j) (own_mem t j mem) (own_lens t j lens)

  -- the index that is told
  index_is : passes t mem lens lines ≡ true → (choice look lines t).grade < 48 → index_served look t mem lens lines ≡ (choice look lines t).at
  unfolding index_served
  index_is e found = simp (e, lt-ltb (choice look lines t).grade 48 found)

  pub own_cases : (P : View)
      → ((why : Refusal) → P (Refused why) out (record_at t i) (own_mem t i mem) (own_lens t i lens))
      → ((j : ℕ) → j < length t → (j ≡ i → ⊥) → index_served look t mem lens lines ≡ j → GivenAt j
      → P (worked_at j).made.answer (worked_at j).out (record_at t i) (own_mem t i mem) (own_lens t i lens))
      → (index_served look t mem lens lines ≡ i → GivenAt i → Left P (worked_at i))
      → Seen P i (serve_one look step t mem lens lines out)
  own_cases P bad elsewhere own = by (passes t mem lens lines) refl (is_found (choice look lines t)) refl
    where
      at : ℕ
      at = (choice look lines t).at

      go : (b : Bool) → eqb at i ≡ b → index_served look t mem lens lines ≡ at → Lawful t mem lens → at < length t → GivenAt at
          → Seen P i (stored look.sought t mem lens lines (choice look lines t) (worked_at at))
      go true e told h there g =
          let is : at ≡ i = eqb-true at i e in
          subst (λ (j : ℕ). Seen P j (stored look.sought t mem lens lines (choice look lines t) (worked_at at))) is
          (stored_own P t mem lens lines h look.sought (choice look lines t) there (worked_at at)
          (shapes at (rank_in (choice look lines t).grade) (record_at t at) (own_mem t at mem) (own_lens t at lens) g)
          (subst (λ (j : ℕ). Left P (worked_at j)) (sym is) (own (told ∙ is) (subst GivenAt is g))))
      go false e told h there g =
          let apart : at ≡ i → ⊥ = eqb-false at i e in
          stored_other P t mem lens lines h look.sought i (choice look lines t) below there (λ q. apart (sym q)) (worked_at at)
          (shapes at (rank_in (choice look lines t).grade) (record_at t at) (own_mem t at mem) (own_lens t at lens) g) (elsewhere at there apart told g)

      by : (a : Bool) → passes t mem lens lines ≡ a → (b : Bool) → is_found (choice look lines t) ≡ b → Seen P i (serve_one look step t mem lens lines out)
      by false e b f = subst (Seen P i) (sym (serve_unlawful look step t mem lens lines out e)) (bad refusal.Settings)
      by true e false f = subst (Seen P i) (sym (serve_missing look step t mem lens lines out e f)) (bad (missing look.sought))
      by true e true f =
          let h = (passing_is t mem lens lines e).lawful in
          let less = ltb-true (choice look lines t).grade 48 f in
          subst (Seen P i) (sym (serve_found look step t mem lens lines out e f))
          (go (eqb at i) refl (index_is e less) h (found_below look lines t mem lens h less) (given look step t mem lens lines out h less))
