-- Where the fields of a packet stand (document 01, The packet; 000, 4.2.2 and 4.2.3). Numbers most significant octet first.
use Rattle.std.specs.Prelude.{ℕ, ◌+◌, ◌*◌, ◌/◌, ◌%◌, List, [], ◌∷◌, ◌++◌, length, get_or, take, drop}
use Rattle.laws.specs.Octets.{octets_of, pair_at}
use Rattle.crc.specs.Crc.{crc_of}
use Rattle.packet.specs.declared.fields.Fields.{Fields}

-- ---- lengths

-- the least number of octets of a packet
abbrev pub least : ℕ
least = 12

-- the most octets of a Source Address prefix: its length has four bits (document 02, A7; 000, 4.2.3.8.3)
abbrev pub most_prefix : ℕ
most_prefix = 15

-- where the prefix begins
abbrev pub prefix_from : ℕ
prefix_from = 9

-- where the source logical address stands behind a prefix of n octets
abbrev pub source_at : ℕ → ℕ
source_at n = prefix_from + n

-- where the payload begins behind it
abbrev pub payload_at : ℕ → ℕ
payload_at n = 10 + n

-- how many octets a packet with a prefix of n octets and a payload of x has
abbrev pub whole_length : ℕ → ℕ → ℕ
whole_length n x = 12 + n + x

-- ---- from fields to octets

-- octet 2, Packet Control (000, 4.2.3.4): version, 2 bits; secondary header flag, 1; sequence flags, 2; packet type, 3
abbrev pub control_of : Fields → ℕ
control_of f = f.version * 64 + f.secondary * 32 + f.flags * 8 + f.kind

-- octet 8, Address Control (000, 4.2.3.8): reserved, 4 bits; length n of the prefix, 4
abbrev pub address_control_of : Fields → ℕ → ℕ
address_control_of f n = f.reserved * 16 + n

-- what stands before a prefix of n octets, with a payload of x
abbrev pub front_of : Fields → ℕ → ℕ → List ℕ
front_of f n x =
    f.destination ∷ f.protocol
    ∷ control_of f
    ∷ octets_of x ++ octets_of f.channel ++ f.number
    ∷ address_control_of f n
    ∷ []

-- what stands before a payload of x octets, with the prefix q
unfoldable pub head_of : Fields → List ℕ → ℕ → List ℕ
head_of f q x = front_of f (length q) x ++ q ++ (f.source ∷ [])

-- what the check sum goes over (000, 4.2.5): from octet 0 to the last octet of the payload p
unfoldable pub body_of : Fields → List ℕ → List ℕ → List ℕ
body_of f q p = head_of f q (length p) ++ p

-- the packet with the fields f, the prefix q and the payload p
unfoldable pub packet_of : Fields → List ℕ → List ℕ → List ℕ
packet_of f q p = body_of f q p ++ octets_of (crc_of (body_of f q p))

-- ---- from octets to fields

-- octets 3-4: the payload length X
abbrev pub length_at : List ℕ → ℕ
length_at s = pair_at s 3

-- octet 8: the prefix length N
abbrev pub prefix_at : List ℕ → ℕ
prefix_at s = get_or s 8 0 % 16

-- prefix and payload are read where they lie
abbrev pub prefix_in : List ℕ → List ℕ
prefix_in s = take (prefix_at s) (drop prefix_from s)

abbrev pub payload_in : List ℕ → List ℕ
payload_in s = take (length_at s) (drop (payload_at (prefix_at s)) s)

abbrev pub fields_at : List ℕ → Fields
fields_at s =
    record {
      destination = get_or s 0 0;
      protocol = get_or s 1 0;
      version = get_or s 2 0 / 64;
      secondary = get_or s 2 0 / 32 % 2;
      flags = get_or s 2 0 / 8 % 4;
      kind = get_or s 2 0 % 8;
      channel = pair_at s 5;
      number = get_or s 7 0;
      reserved = get_or s 8 0 / 16;
      source = get_or s (source_at (prefix_at s)) 0;
    }
