-- The records of a trace (document 01, Replay program): 'body length (2 octets, little-endian), kind (2, little-endian), body', one after another.
use Rattle.std.specs.Prelude.{◌≡◌, Bool, false, List, [], ◌∷◌, ◌++◌, ℕ, ◌+◌, ◌/◌, ◌%◌, ltb, eqb, length, get_or, drop, if◌then◌else◌}
use Rattle.laws.specs.Octets.{pair_of}

pub record Entry : Type 0 where
  pub kind : ℕ
  pub body : List ℕ

-- the number in the octets k and k + 1, the least significant first
abbrev pub little_at : List ℕ → ℕ → ℕ
little_at octets k = pair_of (get_or octets (k + 1) 0) (get_or octets k 0)

-- a record has four octets of head, and as many of body as its head says
abbrev pub is_whole : List ℕ → Bool
is_whole octets = if ltb (length octets) 4 then false else eqb (length octets) (4 + little_at octets 0)

abbrev pub entry_of : List ℕ → Entry
entry_of octets = record { kind = little_at octets 2; body = drop 4 octets }

-- the records that are whole, and the octets that are left behind them, of one that is cut
pub record Records : Type 0 where
  pub whole : List Entry
  pub left : List ℕ

abbrev pub after : Entry → Records → Records
after e r = record { whole = e ∷ r.whole; left = r.left }

-- octets come one after another behind those of a record that is not whole yet: as soon as it is, the next one begins
unfoldable pub records_from : List ℕ → List ℕ → Records
records_from held [] = record { whole = []; left = held }
records_from held (o ∷ octets) =
    if is_whole (held ++ (o ∷ [])) then after (entry_of (held ++ (o ∷ []))) (records_from [] octets)
    else records_from (held ++ (o ∷ [])) octets

abbrev pub records_of : List ℕ → Records
records_of octets = records_from [] octets

-- a record as it stands in a trace
abbrev pub written_as : Entry → List ℕ
written_as e = (length e.body % 256) ∷ (length e.body / 256) ∷ (e.kind % 256) ∷ (e.kind / 256) ∷ e.body

-- what stands there is what is read
abbrev pub WrittenThenRead : Type 0
WrittenThenRead = (e : Entry) (octets : List ℕ) → records_of (written_as e ++ octets) ≡ after e (records_of octets)
