-- Demand 2's round trips, stated: both ways, over every input, with a prefix of any length.
use Rattle.std.specs.Prelude.{◌≡◌, List, ◌++◌, ℕ, ◌≤◌, Ok, length, take, drop}
use Rattle.laws.specs.Octets.{Octets}
use Rattle.packet.specs.declared.fields.Fields.{Fields}
use Rattle.packet.specs.Layout.{prefix_from, payload_at, whole_length}
use Rattle.packet.specs.Reading.{finds, read_of}
use Rattle.packet.specs.Writing.{written_of, after_write}

-- the octets s are read to the fields f, the prefix q and the payload p
pub record ReadsBack (s : List ℕ) (f : Fields) (q p : List ℕ) : Type 0 where
  pub answer : read_of s ≡ finds f (length q) (payload_at (length q)) (length p)
  pub prefix : take (length q) (drop prefix_from s) ≡ q
  pub payload : take (length p) (drop (payload_at (length q)) s) ≡ p
  pub count : length s ≡ whole_length (length q) (length p)

-- what is written is read back to the same fields, the same prefix and the same payload octets
abbrev pub WrittenThenRead : Type 0
WrittenThenRead =
    (f : Fields) (q p out : List ℕ) (count : ℕ)
    → written_of f (length q) (length p) (length out) ≡ Ok count
    → ReadsBack (take count (after_write (Ok count) f q p out)) f q p

-- the fields f, the prefix q and the payload p are written to the octets s, at the front of the buffer out
pub record WritesBack (f : Fields) (q p out s : List ℕ) : Type 0 where
  pub answer : written_of f (length q) (length p) (length out) ≡ Ok (length s)
  pub octets : after_write (Ok (length s)) f q p out ≡ s ++ drop (length s) out
  pub count : length s ≡ whole_length (length q) (length p)

-- what is accepted is written back to the same octets, into any buffer that holds them
abbrev pub ReadThenWritten : Type 0
ReadThenWritten =
    (s out : List ℕ) (f : Fields) (n start x : ℕ)
    → Octets s
    → read_of s ≡ finds f n start x
    → length s ≤ length out
    → WritesBack f (take n (drop prefix_from s)) (take x (drop start s)) out s
