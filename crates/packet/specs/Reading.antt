-- What reading a packet alone gives, for whatever octets: tests 1, 2, 4, 3 in this order (document 01, The packet).
use Rattle.std.specs.Prelude.{ℕ, List, Result, Ok, Err, if◌then◌else◌}
use Rattle.packet.specs.declared.fields.Fields.{Fields}
use Rattle.packet.specs.declared.reading.Found.{Found}
use Rattle.packet.specs.declared.reading.ReadError.{ReadError}
use Rattle.packet.specs.declared.reading.ReadError.TheVariants.{Short, Damaged, Lacking, Strange}
use Rattle.packet.specs.Layout.{fields_at, prefix_at, length_at, payload_at}
use Rattle.packet.specs.Tests.{short, damaged, lacking, strange}

-- a packet with the fields f and a prefix of n octets; its payload of x octets begins at start
abbrev pub finds : Fields → ℕ → ℕ → ℕ → Result Found ReadError
finds f n start x = Ok (record { fields = f; prefix = n; start = start; length = x })

unfoldable pub read_of : List ℕ → Result Found ReadError
read_of s =
    if short s then Err Short
    else if damaged s then Err Damaged
    else if lacking (fields_at s) (prefix_at s) then Err Lacking
    else if strange (fields_at s) (length_at s) then Err Strange
    else finds (fields_at s) (prefix_at s) (payload_at (prefix_at s)) (length_at s)

-- the answer number of each case (document 01, Answer numbers)
abbrev pub read_number : Result Found ReadError → ℕ
read_number (Ok found) = 0
read_number (Err Short) = 1
read_number (Err Damaged) = 2
read_number (Err Strange) = 3
read_number (Err Lacking) = 4
