-- Segments in slots of a lent memory, with a length for each slot beside it (document 01, A channel's record and memory): slot k of a
-- memory with slots of at most P octets is the P octets from k * P on.
use Rattle.std.specs.Prelude.{ℕ, ◌+◌, ◌*◌, ◌≤◌, ◌<◌, ◌≡◌, List, ◌++◌, length, get_or, take, drop}

-- a memory m of so many slots, of at most `most` octets each, and the lengths beside it
pub record Sized (slots most : ℕ) (m lens : List ℕ) : Type 0 where
  pub few : slots ≤ 128
  pub short : most ≤ 1024
  pub each : length lens ≡ slots
  pub exact : length m ≡ slots * most

-- a map of so many places to so many slots: each place has a slot, and no two have the same
pub record Slotted (slot : ℕ → ℕ) (places slots : ℕ) : Type 0 where
  pub bound : (place : ℕ) → place < places → slot place < slots
  pub apart : (p q : ℕ) → p < places → q < places → slot p ≡ slot q → p ≡ q

-- m with the octets p from the place `at` on; the rest stays
unfoldable pub laid : List ℕ → ℕ → List ℕ → List ℕ
laid m at p = take at m ++ (p ++ drop (at + length p) m)

-- the octets filed in a slot
abbrev pub segment_in : ℕ → List ℕ → List ℕ → ℕ → List ℕ
segment_in most m lens slot = take (get_or lens slot 0) (drop (slot * most) m)
