-- Laws of `written_of` and `after_write`, and how a packet is laid down: the head with its prefix, the payload, the check sum.
-- Assumes nothing.
use mathlib.Core.Path.{◌≡◌, refl, sym, ap, ap₂, ◌∙◌}
use mathlib.Core.Bool.{true, false}
use mathlib.Core.List.{List, [], ◌∷◌, ◌++◌, append_assoc}
use Prim.Native.Nat.{ℕ, suc, ◌+◌, ◌/◌, ◌%◌, ◌≤◌, ◌<◌}
use native.Mathlib.Numerals.{add-one}
use native.Mathlib.Omega.{arith}
use borrow.Author.Tests.{lt-ltb, le-ltb, ltb-false}
use lib.Dec.{ltb}
use lib.ListN.{length, get_or, take, drop, set, length-append}
use lib.Seq.{sets-eq, set_at, take_at, drop_at, drop-cons, drop-append-add, drop-drop}
use Rattle.std.specs.Prelude.{Result, Ok, Err}
use Rattle.laws.specs.Octets.{octets_of}
use Rattle.laws.proofs.Choice.{not_first}
use Rattle.crc.specs.Crc.{crc_of}
use Rattle.packet.specs.declared.fields.Fields.{Fields}
use Rattle.packet.specs.declared.writing.WriteError.{WriteError}
use Rattle.packet.specs.declared.writing.WriteError.TheVariants.{Lacking, Strange, Small}
use Rattle.packet.specs.Layout.{prefix_from, source_at, payload_at, whole_length, front_of, head_of, body_of, packet_of}
use Rattle.packet.specs.Tests.{lacking, strange}
use Rattle.packet.specs.Writing.{written_of, written_number}

-- ---- the answer from the tests

module _ (f : Fields) (n x room : ℕ) where
  pub write_lacking : lacking f n ≡ true → written_of f n x room ≡ Err Lacking
  unfolding written_of
  write_lacking a = rw a

  pub write_strange : lacking f n ≡ false → strange f x ≡ true → written_of f n x room ≡ Err Strange
  unfolding written_of
  write_strange a b = rw (a, b)

  pub write_small : lacking f n ≡ false → strange f x ≡ false → room < whole_length n x → written_of f n x room ≡ Err (Small (whole_length n x))
  unfolding written_of
  write_small a b c = rw (a, b, lt-ltb room (whole_length n x) c)

  pub write_done : lacking f n ≡ false → strange f x ≡ false → whole_length n x ≤ room → written_of f n x room ≡ Ok (whole_length n x)
  unfolding written_of
  write_done a b c = rw (a, b, le-ltb room (whole_length n x) c)

-- ---- the tests from the answer

-- what a request to write has shown that was done
pub record Writable (f : Fields) (n x given told : ℕ) : Type 0 where
  pub base : lacking f n ≡ false
  pub plain : strange f x ≡ false
  pub room : whole_length n x ≤ given
  pub count : whole_length n x ≡ told

-- a refusal writes nothing
undone : {w : Result ℕ WriteError} (k : ℕ) → (written_number w ≡ 0 → ⊥) → w ≡ Ok k → ⊥
undone k n e = n (ap written_number e)

pub writable : (f : Fields) (n x room count : ℕ) → written_of f n x room ≡ Ok count → Writable f n x room count
unfolding written_of
writable f n x room count e =
    let a = not_first (lacking f n) _ _ _ e (undone count (λ z. omega arith)) in
    let b = not_first (strange f x) _ _ _ a.1 (undone count (λ z. omega arith)) in
    let c = not_first (ltb room (whole_length n x)) _ _ _ b.1 (undone count (λ z. omega arith)) in
    let done : Ok (whole_length n x) ≡ Ok count = c.1 in
    record { base = a.0; plain = b.0; room = ltb-false _ _ c.0; count = cc }

-- ---- lengths

pub head_length : (f : Fields) (q : List ℕ) (x : ℕ) → length (head_of f q x) ≡ payload_at (length q)
unfolding head_of
head_length f q x = omega (arith, length-append q (f.source ∷ []))

pub body_length : (f : Fields) (q p : List ℕ) → length (body_of f q p) ≡ payload_at (length q) + length p
unfolding body_of
body_length f q p = omega (arith, length-append (head_of f q (length p)) p, head_length f q (length p))

-- a packet has 12 + N + X octets
pub packet_length : (f : Fields) (q p : List ℕ) → length (packet_of f q p) ≡ whole_length (length q) (length p)
unfolding packet_of
packet_length f q p = omega (arith, length-append (body_of f q p) (octets_of (crc_of (body_of f q p))), body_length f q p)

-- ---- laid down, one part after the other

-- the check sum c behind the first n octets
pub sealed : (l : List ℕ) (n c : ℕ) → n + 2 ≤ length l → set (set l n (c / 256)) (n + 1) (c % 256) ≡ take n l ++ octets_of c ++ drop (n + 2) l
sealed l n c h = rw add-one (sets-eq (octets_of c) l n h)

-- p copied behind what stands at the front of a buffer, to the k places that it takes
behind : (h p out w t : List ℕ) (at k : ℕ)
    → length h ≡ at
    → w ≡ h ++ drop at out
    → t ≡ p
    → k ≡ length p
    → take at w ++ (t ++ drop k (drop at w)) ≡ (h ++ p) ++ drop (at + length p) out
behind h p out w t at k lh ew et ek =
    let front : take at w ≡ h = ap (take at) ew ∙ take_at h (drop at out) at lh in
    let rest : drop k (drop at w) ≡ drop (at + length p) out =
    ap₂ (λ (n : ℕ) (l : List ℕ). drop n l) ek (ap (drop at) ew ∙ drop_at h (drop at out) at lh) ∙ drop-drop (length p) at out in
    ap₂ (λ (a b : List ℕ). a ++ (t ++ b)) front rest
    ∙ ap (λ (l : List ℕ). h ++ (l ++ drop (at + length p) out)) et
    ∙ sym (append_assoc h p (drop (at + length p) out))

-- a head and what stands behind it, cut where the source address stands
pub head_cut : (f : Fields) (q rest : List ℕ) (x : ℕ) → head_of f q x ++ rest ≡ (front_of f (length q) x ++ q) ++ (f.source ∷ rest)
unfolding head_of
head_cut f q rest x = append_assoc (front_of f (length q) x ++ q) (f.source ∷ []) rest

-- the calls of `lay_head`, one after the other: what each leaves, and what the last store then makes
pub headed : (f : Fields) (front q out s t : List ℕ) (k x : ℕ)
    → front ≡ front_of f (length q) x
    → payload_at (length q) ≤ length out
    → s ≡ front
    → t ≡ q
    → k ≡ length q
    → set (take prefix_from (s ++ drop prefix_from out) ++ (t ++ drop k (drop prefix_from (s ++ drop prefix_from out)))) (source_at (length q)) f.source
    ≡ head_of f q x ++ drop (payload_at (length q)) out
headed f front q out s t k x ef room es et ek =
    let h = front_of f (length q) x in
    let at = source_at (length q) in
    let written = ap (λ (l : List ℕ). l ++ drop prefix_from out) (es ∙ ef) in
    let next : drop at out ≡ get_or out at 0 ∷ drop (suc at) out = drop-cons out at 0 (omega arith) in
    let count : length (h ++ q) ≡ at = omega (arith, length-append h q) in
    let one : suc at ≡ payload_at (length q) = omega arith in
    ap
    (λ (l : List ℕ). set l at f.source)
    (behind h q out (s ++ drop prefix_from out) t prefix_from k refl written et ek ∙ ap (λ (l : List ℕ). (h ++ q) ++ l) next)
    ∙ set_at (h ++ q) (get_or out at 0) (drop (suc at) out) f.source at count
    ∙ ap (λ (n : ℕ). (h ++ q) ++ f.source ∷ drop n out) one
    ∙ sym (head_cut f q (drop (payload_at (length q)) out) x)

-- the body at the buffer's front, sealed, is the packet at its front
whole : (f : Fields) (q p out : List ℕ) (n : ℕ)
    → n ≡ payload_at (length q) + length p
    → take n (body_of f q p ++ drop n out) ++ octets_of (crc_of (take n (body_of f q p ++ drop n out))) ++ drop (n + 2) (body_of f q p ++ drop n out)
    ≡ packet_of f q p ++ drop (whole_length (length q) (length p)) out
unfolding packet_of
whole f q p out n en =
    let body = body_of f q p in
    let rest = drop n out in
    let count : length body ≡ n = body_length f q p ∙ sym en in
    let front : take n (body ++ rest) ≡ body = take_at body rest n count in
    let g : n + 2 ≡ whole_length (length q) (length p) = omega arith in
    let back : drop (n + 2) (body ++ rest) ≡ drop (whole_length (length q) (length p)) out =
    ap (λ (k : ℕ). drop (k + 2) (body ++ rest)) (sym count)
    ∙ drop-append-add body rest 2
    ∙ drop-drop 2 n out
    ∙ ap (λ (k : ℕ). drop k out) g in
    ap₂ (λ (a b : List ℕ). a ++ octets_of (crc_of a) ++ b) front back

-- the calls of `write_packet`, one after the other: the payload behind the head
pub filled : (f : Fields) (q p out w t : List ℕ) (k : ℕ)
    → w ≡ head_of f q (length p) ++ drop (payload_at (length q)) out
    → t ≡ p
    → k ≡ length p
    → take (payload_at (length q)) w ++ (t ++ drop k (drop (payload_at (length q)) w)) ≡ body_of f q p ++ drop (payload_at (length q) + length p) out
unfolding body_of
filled f q p out w t k ew et ek =
    behind (head_of f q (length p)) p out w t (payload_at (length q)) k (head_length f q (length p)) ew et ek

-- and the check sum behind both
pub assembled : (f : Fields) (q p out m s : List ℕ)
    → m ≡ body_of f q p ++ drop (payload_at (length q) + length p) out
    → s
    ≡ take (payload_at (length q) + length p) m
    ++ octets_of (crc_of (take (payload_at (length q) + length p) m))
    ++ drop (payload_at (length q) + length p + 2) m
    → s ≡ packet_of f q p ++ drop (whole_length (length q) (length p)) out
assembled f q p out m s em es =
    let n = payload_at (length q) + length p in
    es ∙ ap (λ (l : List ℕ). take n l ++ octets_of (crc_of (take n l)) ++ drop (n + 2) l) em ∙ whole f q p out n refl
