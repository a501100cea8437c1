-- Where a segment that is handed out lies, and that its packet is one that is written.
-- Assumes nothing.
use Rattle.std.proofs.Common.{◌≡◌, ℕ, ◌+◌, ◌-◌, ◌*◌, ◌%◌, ◌<◌, ◌≤◌, List, length, get_or, take, drop, sym, refl, ap, ◌∙◌, subst, ap₂, mul-le-mul_right, pos_of_ne-zero, arith}
use Rattle.slots.specs.Slots.{segment_in}
use Rattle.channel.specs.Places.{slot_of}
use Rattle.packet.specs.declared.fields.Fields.{Fields}
use Rattle.packet.specs.declared.kinds.Kind.TheVariants.{Data}
use Rattle.channel.specs.declared.record.Node.{Node}
use Rattle.channel.specs.declared.record.Channel.{Channel}
use Rattle.channel.specs.Steps.{outgoing_of}
use Rattle.sender_packets.specs.Asked.{Plain}
use Rattle.channel.specs.Asked.{Asked}
use Rattle.sender.specs.Directives.{place_at}
use Rattle.sender_packets.specs.HandingOut.{data_fields, sent_step, sent_out}
use Rattle.slots.proofs.SlotLaws.{slot_in_lem}
use Rattle.channel.proofs.PlaceLaws.{slot_bound}
use Rattle.channel.proofs.StandingLaws.{own_fits}
use Rattle.store.proofs.Laws.{segment_length}
use Rattle.sender_packets.proofs.HandLaws.{data_plain}
use Rattle.sender.proofs.AskedLaws.{place_lt, mark_set, mark_ends, mark_fits}

-- where the segment lies: its mark by its place s, its length by its slot t, and its octets within the memory
pub record Lying (c : Channel) (mem lens : List ℕ) (s t : ℕ) : Type 0 where
  pub place : s < c.limits.slots
  pub slot : t < c.limits.slots
  pub least : 1 ≤ get_or c.marks s 0
  pub mark : get_or c.marks s 0 ≤ 4
  pub short : get_or lens t 0 ≤ c.limits.payload
  pub ends : get_or lens t 0 ≡ 0 → 3 ≤ get_or c.marks s 0
  pub inside : t * c.limits.payload + c.limits.payload ≤ length mem
  pub small : t * c.limits.payload + c.limits.payload ≤ 131072
  pub some : t < length lens
  pub most : c.limits.payload ≤ 1024
  pub few : c.limits.slots ≤ 128

pub lying : (c : Channel) (mem lens : List ℕ) → Asked c mem lens → (i : ℕ) → i < c.window.ahead → (s t : ℕ) → s ≡ place_at c i → t ≡ slot_of c s
    → Lying c mem lens s t
lying c mem lens a i l s t e f =
    subst (λ (k : ℕ). Lying c mem lens s k) (sym f) (subst (λ (k : ℕ). Lying c mem lens k (slot_of c k)) (sym e) here)
  where
    here : Lying c mem lens (place_at c i) (slot_of c (place_at c i))
    here =
        let h = a.standing in
        let p = place_lt c lens h i l in
        let b = slot_bound c.limits (place_at c i) p in
        let m = mark_fits c lens h i l in
        record {
          place = p;
          slot = b;
          least = pos_of_ne-zero (mark_set c lens h i l);
          mark = m.0;
          short = m.1;
          ends = mark_ends c lens h i l;
          inside = omega (arith, slot_in_lem (slot_of c (place_at c i)) c.limits.slots c.limits.payload b, a.sized.exact);
          small = omega (
            arith,
            slot_in_lem (slot_of c (place_at c i)) c.limits.slots c.limits.payload b,
            mul-le-mul_right c.limits.payload a.sized.few,
            a.sized.short,
          );
          some = omega (arith, h.count);
          most = a.sized.short;
          few = a.sized.few;
        }

pub segment_sized : (c : Channel) (mem lens : List ℕ) → Asked c mem lens → (i : ℕ) → i < c.window.ahead
    → length (segment_in c.limits.payload mem lens (slot_of c (place_at c i))) ≡ get_or lens (slot_of c (place_at c i)) 0
segment_sized c mem lens a i l =
    let y = lying c mem lens a i l (place_at c i) (slot_of c (place_at c i)) refl refl in
    segment_length c.limits.slots c.limits.payload mem lens (slot_of c (place_at c i)) a.sized y.slot y.short

-- the octets of a slot, as they are handed on
module _ (c : Channel) (mem lens : List ℕ) (a : Asked c mem lens) (i s t : ℕ) (l : i < c.window.ahead) (e : s ≡ place_at c i) (f : t ≡ slot_of c s) where
  abbrev part : List ℕ
  part = take (t * c.limits.payload + get_or lens t 0 - t * c.limits.payload) (drop (t * c.limits.payload) mem)

  pub part_is : part ≡ segment_in c.limits.payload mem lens t
  part_is =
      let z : t * c.limits.payload + get_or lens t 0 - t * c.limits.payload ≡ get_or lens t 0 = omega arith in
      ap (λ (k : ℕ). take k (drop (t * c.limits.payload) mem)) z

  pub part_length : length part ≡ get_or lens t 0
  part_length =
      let y = lying c mem lens a i l s t e f in
      ap length part_is ∙ segment_length c.limits.slots c.limits.payload mem lens t a.sized y.slot y.short

  module _ (node : Node) (number : ℕ) (g : Fields) (n : number ≡ (c.window.start + i) % 256)
      (is : g ≡ outgoing_of node c.addresses Data (get_or c.marks s 0 - 1) number) where
    pub part_plain : Plain c.addresses g (length part)
    part_plain =
        let y = lying c mem lens a i l s t e f in
        subst (λ (x : Fields). Plain c.addresses x (length part)) (sym is)
        (data_plain node c.addresses (own_fits c lens a.standing) (get_or c.marks s 0 - 1) number (length part) (omega (arith, y.mark)) (omega (arith, part_length, y.short, y.most))
        (λ z. omega (arith, y.ends (sym part_length ∙ z))))

    pub part_step : (after : Channel) (k : ℕ) → sent_step c after (length part) k ≡ sent_step c after (get_or lens (slot_of c (place_at c i)) 0) k
    part_step after k = ap (λ (x : ℕ). sent_step c after x k) (part_length ∙ ap (λ (p : ℕ). get_or lens p 0) (f ∙ ap (slot_of c) e))

    pub part_out : (out : List ℕ) → sent_out c.addresses g part out ≡ sent_out c.addresses (data_fields node c i) (segment_in c.limits.payload mem lens (slot_of c (place_at c i))) out
    part_out out =
        ap₂ (λ (x : Fields) (p : List ℕ). sent_out c.addresses x p out)
        (is ∙ ap₂ (λ (p k : ℕ). outgoing_of node c.addresses Data (get_or c.marks p 0 - 1) k) e n)
        (part_is ∙ ap (segment_in c.limits.payload mem lens) (f ∙ ap (slot_of c) e))
