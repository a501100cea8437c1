-- What a call leaves that serves one record of a table.
--     Roles        of a decision, the index that it names and what is said where that is none; of the outcome of a step, the record that is
--                  stored and what is said
--     Worked       what the step of one record leaves: its outcome, and mem, lens and out
--     Performed    what the step of a call leaves: the same, and the lines
--     Called       what the call leaves: its answer, the table, and the four slices
--     Changed      what a call leaves that changes the table and the lines alone
--     serving      the record at the decided index is stepped by F, and stored; where the decision is no index of the table, it has the answer
--                  and nothing changes
--     saying       what a call leaves, with its answer turned into another value
--     telling      the same of a call that changes the table and the lines alone
use Rattle.std.specs.Prelude.{Bool, true, false, List, ℕ, ltb, length, get_or, set}

pub record Roles (C N S D : Type 0) : Type 0 where
  pub at : D → ℕ
  pub unserved : D → N
  pub stored : S → C
  pub said : S → N
  -- any record: what `get_or` gives past the end of a table. No proof looks into it
  pub blank : C

pub record Worked (S : Type 0) : Type 0 where
  pub made : S
  pub mem : List ℕ
  pub lens : List ℕ
  pub out : List ℕ

pub record Performed (S : Type 0) : Type 0 where
  pub made : S
  pub mem : List ℕ
  pub lens : List ℕ
  pub lines : List ℕ
  pub out : List ℕ

pub record Called (N C : Type 0) : Type 0 where
  pub answer : N
  pub table : List C
  pub mem : List ℕ
  pub lens : List ℕ
  pub lines : List ℕ
  pub out : List ℕ

pub record Changed (N C : Type 0) : Type 0 where
  pub answer : N
  pub table : List C
  pub lines : List ℕ

abbrev pub works : {S : Type 0} → S → List ℕ → List ℕ → List ℕ → Worked S
works r m l o = record { made = r; mem = m; lens = l; out = o }

abbrev pub performs : {S : Type 0} → S → List ℕ → List ℕ → List ℕ → List ℕ → Performed S
performs r m l li o = record { made = r; mem = m; lens = l; lines = li; out = o }

abbrev pub leaves : {N C : Type 0} → N → List C → List ℕ → List ℕ → List ℕ → List ℕ → Called N C
leaves r ys m l li o = record { answer = r; table = ys; mem = m; lens = l; lines = li; out = o }

abbrev pub changes : {N C : Type 0} → N → List C → List ℕ → Changed N C
changes r ys li = record { answer = r; table = ys; lines = li }

module _ {C N S D : Type 0} (R : Roles C N S D) where
  unfoldable pub served_by : Bool → D → List C → List ℕ → List ℕ → List ℕ → List ℕ → Performed S → Called N C
  served_by true d ys m l li o w = record { answer = R.said w.made; table = set ys (R.at d) (R.stored w.made); mem = w.mem; lens = w.lens; lines = w.lines; out = w.out }
  served_by false d ys m l li o w = record { answer = R.unserved d; table = ys; mem = m; lens = l; lines = li; out = o }

  abbrev pub serving : {P : Type 0} → (C → D → P → List ℕ → List ℕ → List ℕ → List ℕ → List ℕ → Performed S) → D → List C → List ℕ → List ℕ → List ℕ → P → List ℕ → List ℕ → Called N C
  serving F d ys m l li n x o = served_by (ltb (R.at d) (length ys)) d ys m l li o (F (get_or ys (R.at d) R.blank) d n m l li x o)

-- done where the test holds; where it does not, `bad` is said and nothing changes
module _ {N C : Type 0} (bad : N) where
  unfoldable pub done_by : Bool → List C → List ℕ → Changed N C → Changed N C
  done_by true ys li w = w
  done_by false ys li w = record { answer = bad; table = ys; lines = li }

module _ {N B C : Type 0} (turned : N → B) where
  abbrev pub saying : Called N C → Called B C
  saying w = record { answer = turned w.answer; table = w.table; mem = w.mem; lens = w.lens; lines = w.lines; out = w.out }

  abbrev pub telling : Changed N C → Changed B C
  telling w = record { answer = turned w.answer; table = w.table; lines = w.lines }
