-- Demand 2's round trips, over every input: what is written is read back to the same fields, prefix and payload octets, and what is
-- accepted is written back to the same octets.
-- Assumes nothing.
use mathlib.Core.Path.{◌≡◌, refl, sym, ap, ap₂, ◌∙◌}
use mathlib.Core.Bool.{false, not}
use mathlib.Core.List.{List, [], ◌∷◌, ◌++◌, append_assoc}
use Prim.Native.Nat.{ℕ, suc, ◌+◌, ◌-◌, ◌*◌, ◌/◌, ◌%◌, ◌≤◌, ◌<◌}
use native.Mathlib.Numerals.{add-one}
use native.Mathlib.Omega.{arith}
use borrow.Author.Tests.{eq-eqb}
use lib.ListN.{length, get_or, take, drop, take-append-drop, length-drop, length-append}
use lib.Seq.{take_at, drop_at, get_or_at, get_or-append-add, take-suc, take-add, take_all, length-take-le}
use Rattle.std.specs.Prelude.{Ok}
use Rattle.laws.specs.Octets.{Octets, octets_of, pair_of, pair_at}
use Rattle.laws.proofs.Lists.{firsts}
use Rattle.crc.specs.Crc.{crc_of}
use Rattle.packet.specs.declared.fields.Fields.{Fields}
use Rattle.packet.specs.Layout.{least, prefix_from, source_at, payload_at, whole_length, front_of, head_of, body_of, packet_of, fields_at, prefix_at, prefix_in, length_at, payload_in}
use Rattle.packet.specs.Tests.{short, damaged, lacking, strange, Sound}
use Rattle.packet.specs.Reading.{finds, read_of}
use Rattle.packet.specs.Writing.{after_write}
use Rattle.packet.specs.RoundTrip.{WrittenThenRead, ReadThenWritten}
use Rattle.packet.proofs.Tests.{long, whole, sourced, not_short, undamaged, sound}
use Rattle.packet.proofs.ReadLaws.{read_found, accepted}
use Rattle.packet.proofs.WriteLaws.{write_done, head_length, head_cut, packet_length, writable}

-- ---- written, then read

-- octet 8 says how many octets the prefix has
prefix_back : (f : Fields) (q p : List ℕ) → Sound f (length q) (length p) → prefix_at (packet_of f q p) ≡ length q
unfolding packet_of body_of head_of
prefix_back f q p s = omega (arith, s.reserved, s.prefix)

-- the packet, cut where its source address stands
source_cut : (f : Fields) (q p : List ℕ)
    → packet_of f q p ≡ (front_of f (length q) (length p) ++ q) ++ (f.source ∷ (p ++ octets_of (crc_of (body_of f q p))))
unfolding packet_of body_of
source_cut f q p =
    let sum = octets_of (crc_of (body_of f q p)) in
    append_assoc (head_of f q (length p)) p sum ∙ head_cut f q (p ++ sum) (length p)

-- the fields that stand in a packet are those that it was made of
fields_back : (f : Fields) (q p : List ℕ) → Sound f (length q) (length p) → fields_at (packet_of f q p) ≡ f
unfolding packet_of body_of head_of
fields_back f q p s =
    let control = f.version * 64 + f.secondary * 32 + f.flags * 8 + f.kind in
    let e1 : control / 64 ≡ f.version = omega (arith, s.secondary, s.version) in
    let e2 : control / 32 % 2 ≡ f.secondary = omega (arith, s.secondary, s.version) in
    let e3 : control / 8 % 4 ≡ f.flags = omega (arith, s.secondary, s.version) in
    let e4 : control % 8 ≡ f.kind = omega (arith, s.secondary, s.version) in
    let e5 : f.channel / 256 * 256 + f.channel % 256 ≡ f.channel = omega arith in
    let e6 : (f.reserved * 16 + length q) / 16 ≡ f.reserved = omega (arith, s.reserved, s.prefix) in
    let front = front_of f (length q) (length p) in
    let count : length (front ++ q) ≡ source_at (prefix_at (packet_of f q p)) = omega (arith, length-append front q, prefix_back f q p s) in
    let e7 : get_or (packet_of f q p) (source_at (prefix_at (packet_of f q p))) 0 ≡ f.source =
    ap (λ (l : List ℕ). get_or l (source_at (prefix_at (packet_of f q p))) 0) (source_cut f q p)
    ∙ get_or_at (front ++ q) f.source (p ++ octets_of (crc_of (body_of f q p))) 0 (source_at (prefix_at (packet_of f q p))) count in
    simp (e1, e2, e3, e4, e5, e6, e7)

length_back : (f : Fields) (q p : List ℕ) → length_at (packet_of f q p) ≡ length p
unfolding packet_of body_of head_of
length_back f q p = omega arith

-- the last two octets are the check sum of those before
sum_back : (f : Fields) (q p : List ℕ) → damaged (packet_of f q p) ≡ false
unfolding damaged packet_of
sum_back f q p =
    let body = body_of f q p in
    let sum = crc_of body in
    let s = body ++ octets_of sum in
    let e : length s - 2 ≡ length body = omega (arith, length-append body (octets_of sum)) in
    let front : take (length s - 2) s ≡ body = take_at body (octets_of sum) (length s - 2) (sym e) in
    let high : get_or s (length s - 2) 0 ≡ sum / 256 = get_or_at body (sum / 256) (sum % 256 ∷ []) 0 (length s - 2) (sym e) in
    let low : get_or s (length s - 2 + 1) 0 ≡ sum % 256 = ap (λ (k : ℕ). get_or s (k + 1) 0) e ∙ get_or-append-add body (octets_of sum) 1 0 in
    let pair : sum ≡ pair_at s (length s - 2) = omega arith in
    ap not (eq-eqb _ _ (ap crc_of front ∙ pair))

packet_read : (f : Fields) (q p : List ℕ)
    → lacking f (length q) ≡ false
    → strange f (length p) ≡ false
    → read_of (packet_of f q p) ≡ finds f (length q) (payload_at (length q)) (length p)
packet_read f q p l t =
    let s = packet_of f q p in
    let w = sound f (length q) (length p) l t in
    let fields = fields_back f q p w in
    let n = prefix_back f q p w in
    let x = length_back f q p in
    let count : length s ≡ whole_length (length q) (length p) = packet_length f q p in
    read_found s (not_short s (omega arith) (cc)) (sum_back f q p) (ap₂ lacking fields n ∙ l) (ap₂ strange fields x ∙ t) ∙ (cc)

-- the prefix lies behind the nine octets before it
prefix_lies : (f : Fields) (q p : List ℕ) → take (length q) (drop prefix_from (packet_of f q p)) ≡ q
prefix_lies f q p =
    let rest = f.source ∷ (p ++ octets_of (crc_of (body_of f q p))) in
    ap (λ (l : List ℕ). take (length q) (drop prefix_from l)) (source_cut f q p ∙ append_assoc (front_of f (length q) (length p)) q rest)
    ∙ take_at q rest (length q) refl

payload_back : (f : Fields) (q p : List ℕ) → take (length p) (drop (payload_at (length q)) (packet_of f q p)) ≡ p
unfolding packet_of body_of
payload_back f q p =
    let sum = octets_of (crc_of (body_of f q p)) in
    ap (λ (l : List ℕ). take (length p) (drop (payload_at (length q)) l)) (append_assoc (head_of f q (length p)) p sum)
    ∙ ap (take (length p)) (drop_at (head_of f q (length p)) (p ++ sum) (payload_at (length q)) (head_length f q (length p)))
    ∙ take_at p sum (length p) refl

pub written_then_read : WrittenThenRead
unfolding after_write
written_then_read f q p out count e =
    let w = writable f (length q) (length p) (length out) count e in
    let told : length (packet_of f q p) ≡ count = packet_length f q p ∙ w.count in
    let s : take count (packet_of f q p ++ drop count out) ≡ packet_of f q p = take_at (packet_of f q p) (drop count out) count told in
    record {
      answer = ap read_of s ∙ packet_read f q p w.base w.plain;
      prefix = ap (λ (l : List ℕ). take (length q) (drop prefix_from l)) s ∙ prefix_lies f q p;
      payload = ap (λ (l : List ℕ). take (length p) (drop (payload_at (length q)) l)) s ∙ payload_back f q p;
      count = ap length s ∙ packet_length f q p;
    }

-- ---- read, then written

-- what stands before the prefix is the front of the fields that stand there
front_back : (s : List ℕ) → Octets s → least ≤ length s → take prefix_from s ≡ front_of (fields_at s) (prefix_at s) (length_at s)
front_back s octets l =
    let c2 = octets 2 in
    let c4 = octets 4 in
    let c6 = octets 6 in
    let c8 = octets 8 in
    let e2 : get_or s 2 0 ≡ get_or s 2 0 / 64 * 64 + get_or s 2 0 / 32 % 2 * 32 + get_or s 2 0 / 8 % 4 * 8 + get_or s 2 0 % 8 = omega arith in
    let e3 : get_or s 3 0 ≡ length_at s / 256 = omega arith in
    let e4 : get_or s 4 0 ≡ length_at s % 256 = omega arith in
    let e5 : get_or s 5 0 ≡ pair_at s 5 / 256 = omega arith in
    let e6 : get_or s 6 0 ≡ pair_at s 5 % 256 = omega arith in
    let e8 : get_or s 8 0 ≡ get_or s 8 0 / 16 * 16 + get_or s 8 0 % 16 = omega arith in
    firsts prefix_from 0 s (omega arith) ∙ (cc)

-- what stands before the payload is the head of the fields and the prefix that stand there
head_back : (s : List ℕ)
    → Octets s
    → short s ≡ false
    → take (payload_at (prefix_at s)) s ≡ head_of (fields_at s) (prefix_in s) (length_at s)
unfolding head_of
head_back s octets short =
    let n = prefix_at s in
    let at = source_at n in
    let q = prefix_in s in
    let source = get_or s at 0 in
    let within : at < length s = omega (arith, sourced s short) in
    let lq : length q ≡ n = length-take-le n (drop prefix_from s) (omega (arith, sourced s short, length-drop prefix_from s)) in
    let front : take prefix_from s ≡ front_of (fields_at s) (length q) (length_at s) =
    front_back s octets (long s short) ∙ ap (λ (k : ℕ). front_of (fields_at s) k (length_at s)) (sym lq) in
    let one : payload_at n ≡ suc at = omega arith in
    ap (λ (k : ℕ). take k s) one
    ∙ take-suc s at 0 within
    ∙ ap (λ (l : List ℕ). l ++ (source ∷ [])) (take-add prefix_from n s ∙ ap (λ (l : List ℕ). l ++ q) front)

-- an accepted packet is the packet of its fields, its prefix and its payload
packet_same : (s : List ℕ) → Octets s → short s ≡ false → damaged s ≡ false → packet_of (fields_at s) (prefix_in s) (payload_in s) ≡ s
unfolding packet_of body_of
packet_same s octets short undamaged-s =
    let x = length_at s in
    let f = fields_at s in
    let q = prefix_in s in
    let at = payload_at (prefix_at s) in
    let p = payload_in s in
    let n : length s - 2 ≡ at + x = omega (arith, whole s short) in
    let lp : length p ≡ x = length-take-le x (drop at s) (omega (arith, whole s short, length-drop at s)) in
    let body : head_of f q (length p) ++ p ≡ take (at + x) s =
    ap₂ (λ (a b : List ℕ). a ++ b) (ap (head_of f q) lp ∙ sym (head_back s octets short)) refl ∙ sym (take-add at x s) in
    let sum : crc_of (head_of f q (length p) ++ p) ≡ pair_at s (at + x) =
    ap crc_of body ∙ ap (λ (k : ℕ). crc_of (take k s)) (sym n) ∙ undamaged s undamaged-s ∙ ap (pair_at s) n in
    let hi = get_or s (at + x) 0 in
    let lo = get_or s (at + x + 1) 0 in
    let low = octets (at + x + 1) in
    let e : pair_of hi lo / 256 ≡ hi = omega arith in
    let e' : pair_of hi lo % 256 ≡ lo = omega arith in
    let last : drop (at + x) s ≡ hi ∷ lo ∷ [] =
    sym (take_all 2 (drop (at + x) s) (omega (arith, whole s short, length-drop (at + x) s)))
    ∙ firsts 2 (at + x) s (omega (arith, whole s short))
    ∙ ap (λ (k : ℕ). hi ∷ get_or s k 0 ∷ []) (sym (add-one (at + x))) in
    let trailer : octets_of (crc_of (head_of f q (length p) ++ p)) ≡ drop (at + x) s =
    ap octets_of sum ∙ ap₂ (λ (a b : ℕ). a ∷ b ∷ []) e e' ∙ sym last in
    ap₂ (λ (a b : List ℕ). a ++ b) body trailer ∙ take-append-drop (at + x) s

pub read_then_written : ReadThenWritten
unfolding after_write
read_then_written s out f n start x octets e room =
    let a = accepted s f n start x e in
    let q = take n (drop prefix_from s) in
    let p = take x (drop start s) in
    let count : length s ≡ whole_length n x = whole s a.long ∙ ap₂ whole_length a.prefix a.payload in
    let same : packet_of f q p ≡ s = cc (packet_same s octets a.long a.sealed) in
    let lq : length q ≡ n = length-take-le n (drop prefix_from s) (omega (arith, length-drop prefix_from s)) in
    let lp : length p ≡ x = length-take-le x (drop start s) (omega (arith, length-drop start s, a.place, a.prefix)) in
    record {
      answer =
          write_done f (length q) (length p) (length out) (ap₂ lacking (sym a.fields) (lq ∙ sym a.prefix) ∙ a.base)
          (ap₂ strange (sym a.fields) (lp ∙ sym a.payload) ∙ a.plain)
          (omega arith)
          ∙ ap Ok (ap₂ whole_length lq lp ∙ sym count);
      octets = ap (λ (l : List ℕ). l ++ drop (length s) out) same;
      count = count ∙ sym (ap₂ whole_length lq lp);
    }
