-- What writing a packet alone gives, for whatever fields, prefix, payload and buffer: tests 4, 3, 11 in this order (document 01, The packet).
use Rattle.std.specs.Prelude.{ℕ, List, Result, Ok, Err, ◌++◌, drop, ltb, if◌then◌else◌}
use Rattle.packet.specs.declared.fields.Fields.{Fields}
use Rattle.packet.specs.declared.writing.WriteError.{WriteError}
use Rattle.packet.specs.declared.writing.WriteError.TheVariants.{Lacking, Strange, Small}
use Rattle.packet.specs.Layout.{whole_length, packet_of}
use Rattle.packet.specs.Tests.{lacking, strange}

-- the answer, for a prefix of n octets, a payload of x and a buffer of room: how many octets the packet has, or why it is not written
unfoldable pub written_of : Fields → ℕ → ℕ → ℕ → Result ℕ WriteError
written_of f n x room =
    if lacking f n then Err Lacking
    else if strange f x then Err Strange
    else if ltb room (whole_length n x) then Err (Small (whole_length n x))
    else Ok (whole_length n x)

-- the buffer after the answer: the packet at its front, or as it was
unfoldable pub after_write : Result ℕ WriteError → Fields → List ℕ → List ℕ → List ℕ → List ℕ
after_write (Ok count) f q p out = packet_of f q p ++ drop count out
after_write (Err Lacking) f q p out = out
after_write (Err Strange) f q p out = out
after_write (Err (Small count)) f q p out = out

-- the answer number of each case (document 01, Answer numbers)
abbrev pub written_number : Result ℕ WriteError → ℕ
written_number (Ok n) = 0
written_number (Err Strange) = 3
written_number (Err Lacking) = 4
written_number (Err (Small n)) = 11
