-- What the reader of a trace promises of one call, and of any number of calls over any pieces.
use Rattle.std.specs.Prelude.{◌≡◌, List, [], ◌∷◌, ◌++◌, ℕ, ◌+◌, ◌-◌, ◌≤◌, ◌<◌, ltb, length, take, drop, if◌then◌else◌, Some, None, option_map, option_to_list}
use Rattle.engine.specs.declared.reading.Fed.{Fed}
use Rattle.engine.specs.Trace.{Entry, Records, little_at, records_from, records_of}

-- how many octets of a record that is not whole lie in the buffer; a whole one was given, and the next one begins
unfoldable pub unfinished : ℕ → List ℕ → ℕ
unfinished held buffer = if ltb held 4 then held else if ltb held (4 + little_at buffer 0) then held else 0

abbrev pub held_in : ℕ → List ℕ → List ℕ
held_in held buffer = take (unfinished held buffer) buffer

-- the record that a call gives, if it gives one
abbrev pub given : Fed → List ℕ → List Entry
given r buffer = option_to_list (option_map (λ (kind : ℕ). record { kind = kind; body = take (r.held - 4) (drop 4 buffer) }) r.kind)

abbrev pub behind : List Entry → Records → Records
behind es r = record { whole = es ++ r.whole; left = r.left }

-- a call that is given octets of a piece from an index on
pub record Feeds (before : List ℕ) (held : ℕ) (piece : List ℕ) (from : ℕ) (r : Fed) (buffer : List ℕ) : Type 0 where
  -- what was to be read is what it gives, and what is still to be read
  pub gives : records_from (held_in held before) (drop from piece) ≡ behind (given r buffer) (records_from (held_in r.held buffer) (drop r.next piece))
  -- without a record the piece is used up
  pub ends : r.kind ≡ None → length piece ≤ r.next
  pub goes_on : from < length piece → (from < r.next) × (r.next ≤ length piece)
  pub body_lies : (kind : ℕ) → r.kind ≡ Some kind → (4 ≤ r.held) × (r.held ≤ length buffer)
  -- the octets behind those of the record stay
  pub stays : drop r.held buffer ≡ drop r.held before

-- nothing was read
abbrev pub unread : ℕ → ℕ → Fed
unread held from = record { kind = None; held = held; next = from }

-- ---- calls, one after another

-- the pieces one after another
abbrev pub joined : List (List ℕ) → List ℕ
joined [] = []
joined (p ∷ ps) = p ++ joined ps

-- calls that are given a piece from an index on, until it is used up; the records that they give, and how many octets are then held
pub data ReadOn (piece : List ℕ) : (from held : ℕ) (before : List ℕ) (es : List Entry) (left : ℕ) (buffer : List ℕ) → Type 0 where
  used_up : {from held : ℕ} {buffer : List ℕ} → length piece ≤ from → ReadOn piece from held buffer [] held buffer
  fed : {from held left : ℕ} {before buffer after : List ℕ} {es : List Entry} {r : Fed}
      → Feeds before held piece from r buffer
      → ReadOn piece r.next r.held buffer es left after
      → ReadOn piece from held before (given r buffer ++ es) left after

-- one piece after another is read so
pub data ReadAll : (pieces : List (List ℕ)) (held : ℕ) (before : List ℕ) (es : List Entry) (left : ℕ) (buffer : List ℕ) → Type 0 where
  at_end : {held : ℕ} {buffer : List ℕ} → ReadAll [] held buffer [] held buffer
  piece_read : {piece : List ℕ} {pieces : List (List ℕ)} {held between left : ℕ} {before buffer after : List ℕ} {es more : List Entry}
      → ReadOn piece 0 held before es between buffer
      → ReadAll pieces between buffer more left after
      → ReadAll (piece ∷ pieces) held before (es ++ more) left after

-- whatever the pieces, the records are those of all their octets, and what is held then is what is left of a cut one
abbrev pub AnyCutting : Type 0
AnyCutting = (pieces : List (List ℕ)) (before : List ℕ) (es : List Entry) (left : ℕ) (buffer : List ℕ)
    → ReadAll pieces 0 before es left buffer
    → records_of (joined pieces) ≡ record { whole = es; left = held_in left buffer }
