-- What the walk of a call that serves one record of a table takes (`Call.antt`), and those of the calls that go over all of them.
--     Served           their plain types, and the parts of these that the code reads
--     Tested           the same of a call that is done only where a test holds (`Sweeping.antt`, `Making.antt`)
--     need, needed     what a step requires: a fact, or nothing where it has no `requires`; and that it is met where the fact holds
--     heeded           of a function that has such a requirement: the fact is known in its walk; where it has none, the fact holds anyway
-- Assumes nothing.
use mathlib.Core.Bool.{Bool, true, false, not}
use seplogic.Ra.Ura.{Ura}
use base.Logic.{SProp, ent, emp, sep, id⊢, via, fst∗}
use contract.Monad.{fact, fact_i}
use denote.Triple.Walked.{needs}
use Prim.Native.Nat.{◌^◌}
use lib.Dec.{T, ltb}
use mir.Syntax.{w64}
use denote.Memory.{mem}
use Rattle.walks.proofs.Plain.{Kind, of, uint, truth, Has}

pub record Served : Type 2 where
  pub channel : Kind
  pub answer : Kind
  -- what the step makes: the channel that is stored, and what is said
  pub outcome : Kind
  pub stored : Has outcome channel
  pub said : Has outcome answer
  -- what is decided: the index of the channel that is served, and what is said where it is none
  pub decision : Kind
  pub at : Has decision (uint w64)
  pub unserved : Has decision answer
  -- any channel; and that a channel's size is a number of the machine's
  pub blank : channel.row.Denot
  pub fits : T (ltb (mem (of channel)).size (2 ^ 64))

pub record Tested : Type 2 where
  pub channel : Kind
  pub answer : Kind
  -- what is judged: whether it is done, and what is said where it is not
  pub verdict : Kind
  pub holds : Has verdict truth
  pub refusal : Has verdict answer

module _ {M : Type 1} (𝓤 : Ura M) where
  abbrev pub need : Bool → Type 0 → SProp 𝓤
  need true φ = fact 𝓤 φ
  need false φ = emp 𝓤

  pub needed : (z : Bool) (φ : Type 0) → φ → ent 𝓤 (emp 𝓤) (need z φ)
  needed true φ x = fact_i 𝓤 φ (emp 𝓤) x
  needed false φ x = id⊢ 𝓤 (emp 𝓤)

  pub heeded : (z : Bool) (φ : Type 0) (P Q : SProp 𝓤) → (T (not z) → φ) → (φ → ent 𝓤 P Q) → ent 𝓤 (sep 𝓤 P (need z φ)) Q
  heeded true φ P Q f k = needs 𝓤 φ P k
  heeded false φ P Q f k = via 𝓤 P (fst∗ 𝓤 P (emp 𝓤)) (k (f tt))
