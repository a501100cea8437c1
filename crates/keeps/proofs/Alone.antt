-- A call that serves one channel changes that channel alone, and reads it alone: for any step that keeps the limits and the sizes.
-- Assumes nothing.
use mathlib.Core.Path.{◌≡◌, refl, sym, ap, ap₂, ◌∙◌, subst}
use mathlib.Core.Logic.{inl, inr, ⊎_elim}
use mathlib.Core.Bool.{Bool, true, false}
use mathlib.Core.List.{List, [], ◌∷◌}
use Prim.Native.Nat.{ℕ, suc, ◌+◌, ◌≤◌, ◌<◌}
use native.Mathlib.Nat.{lt_irrefl}
use native.Mathlib.Omega.{arith}
use borrow.Author.Tests.{eqb-true, ltb-true}
use lib.Dec.{leb, eqb}
use lib.ListN.{length}
use lib.Seq.{get_or-set_same, get_or-set_other}
use Rattle.std.specs.Prelude.{if◌then◌else◌}
use Rattle.laws.proofs.Choice.{passed_by}
use Rattle.laws.proofs.Numbers.{either_side}
use Rattle.slots.specs.Slots.{Sized, laid}
use Rattle.slots.proofs.SlotLaws.{laid_here, laid_before, laid_after, laid_elsewhere}
use Rattle.packet.specs.declared.fields.Fields.{Fields}
use Rattle.walks.specs.Serving.{Worked, Called, leaves}
use Rattle.channel.specs.declared.record.Addresses.{Addresses}
use Rattle.channel.specs.declared.record.Limits.{Limits}
use Rattle.channel.specs.declared.record.Channel.{Channel}
use Rattle.channel.specs.declared.answer.Answer.{Answer}
use Rattle.channel.specs.declared.answer.Answer.TheVariants.{Refused}
use Rattle.channel.specs.declared.answer.Refusal.{Refusal}
use Rattle.channel.specs.declared.step.Stepped.{Stepped}
use Rattle.channel.specs.declared.record.Prefix.{Prefix}
use Rattle.table.specs.declared.looking.Look.{Look}
use Rattle.table.specs.declared.looking.Sought.{Sought}
use Rattle.table.specs.Waiting.{rank_in}
use Rattle.table.specs.declared.looking.Sought.TheVariants.{Index, Question, Packet, Nobody}
use Rattle.table.specs.Looking.{seeking}
use Rattle.table.specs.Looking.{addressed, graded, missing, Chosen, chosen_from, is_found, chosen as choice}
use Rattle.table.specs.Lent.{area_of, part_of, slot_at, octet_at}
use Rattle.table.specs.Serving.{blank, record_at, own_mem, own_lens, Step, stored, worked as workedBy, serve_one}
use Rattle.table.proofs.ServeLaws.{Lawful, passing_is, found_below}
use Rattle.keeps.specs.Keeping.{Given, Kept, OthersStay, SameOwn, SameFor, addresses_in, OwnChannelAlone}
use Rattle.keeps.proofs.Storing.{slots_before, octets_before}
use Rattle.keeps.proofs.Serving.{slots_inside, octets_inside, worked, serve_missing, serve_found, given, serve_cases}
use Rattle.keeps.proofs.Parts.{slots_order, octets_order}

-- what a step must keep for this: the limits, and the size of memory and lengths
pub record Shaped (c : Channel) (w : Worked Stepped) : Type 0 where
  pub limits : w.made.channel.limits ≡ c.limits
  pub sized : Sized c.limits.slots c.limits.payload w.mem w.lens

pub kept_shaped : (c : Channel) (w : Worked Stepped) → Kept c w → Shaped c w
kept_shaped c w k = record { limits = k.limits; sized = k.sized }

-- of a step, with the lent buffer
abbrev pub Shapes : Look → Step → List ℕ → Type 0
Shapes look step out = (at rank : ℕ) (c : Channel) (mem lens : List ℕ) → Given look at rank c mem lens → Shaped c (step c rank mem lens out)

-- ---- a record stored, and its parts laid in their place

module _ (t : List Channel) (mem lens lines : List ℕ) (h : Lawful t mem lens) (sought : Sought) (x : Chosen) (below : x.at < length t) (w : Worked Stepped) (k : Shaped (record_at t x.at) w) where
  abbrev i : ℕ
  i = x.at

  in_mem : octet_at t i + length w.mem ≤ length mem
  in_mem = omega (arith, octets_inside t mem lens h i below, k.sized.exact)

  in_lens : slot_at t i + length w.lens ≤ length lens
  in_lens = omega (arith, slots_inside t mem lens h i below, k.sized.each)

  -- all else stays
  pub stored_others : OthersStay t mem lens i (stored sought t mem lens lines x w)
  unfolding stored
  stored_others =
      record {
        records = λ j other. get_or-set_other t i j w.made.channel blank other;
        octets = λ j less other.
            ap₂ (λ (at : ℕ) (c : Channel). part_of at (area_of c.limits) (laid mem (octet_at t i) w.mem)) (octets_before w.made.channel t i j k.limits) (get_or-set_other t i j w.made.channel blank other)
            ∙ laid_elsewhere mem (octet_at t i) w.mem in_mem (octet_at t j) (area_of (record_at t j).limits)
            (⊎_elim (λ b. inl (octets_order t j i b less)) (λ a. inr (omega (arith, octets_order t i j a below, k.sized.exact))) (either_side j i other));
        lengths = λ j less other.
            ap₂ (λ (at : ℕ) (c : Channel). part_of at c.limits.slots (laid lens (slot_at t i) w.lens)) (slots_before w.made.channel t i j k.limits) (get_or-set_other t i j w.made.channel blank other)
            ∙ laid_elsewhere lens (slot_at t i) w.lens in_lens (slot_at t j) (record_at t j).limits.slots
            (⊎_elim (λ b. inl (slots_order t j i b less)) (λ a. inr (omega (arith, slots_order t i j a below, k.sized.each))) (either_side j i other));
        mem_before = laid_before mem (octet_at t i) w.mem in_mem (octet_at t i) (omega arith);
        mem_behind = laid_after mem (octet_at t i) w.mem in_mem (octet_at t i + area_of (record_at t i).limits) (omega (arith, k.sized.exact));
        lens_before = laid_before lens (slot_at t i) w.lens in_lens (slot_at t i) (omega arith);
        lens_behind = laid_after lens (slot_at t i) w.lens in_lens (slot_at t i + (record_at t i).limits.slots) (omega (arith, k.sized.each));
      }

  -- and there stands what the step left
  pub stored_record : record_at (stored sought t mem lens lines x w).table i ≡ w.made.channel
  unfolding stored
  stored_record = get_or-set_same t i w.made.channel blank below

  pub stored_mem : own_mem (stored sought t mem lens lines x w).table i (stored sought t mem lens lines x w).mem ≡ w.mem
  unfolding stored
  stored_mem =
      ap₂ (λ (at : ℕ) (c : Channel). part_of at (area_of c.limits) (laid mem (octet_at t i) w.mem)) (octets_before w.made.channel t i i k.limits) stored_record
      ∙ ap (λ (l : Limits). part_of (octet_at t i) (area_of l) (laid mem (octet_at t i) w.mem)) k.limits
      ∙ ap (λ (n : ℕ). part_of (octet_at t i) n (laid mem (octet_at t i) w.mem)) (sym k.sized.exact)
      ∙ laid_here mem (octet_at t i) w.mem in_mem

  pub stored_lens : own_lens (stored sought t mem lens lines x w).table i (stored sought t mem lens lines x w).lens ≡ w.lens
  unfolding stored
  stored_lens =
      ap₂ (λ (at : ℕ) (c : Channel). part_of at c.limits.slots (laid lens (slot_at t i) w.lens)) (slots_before w.made.channel t i i k.limits) stored_record
      ∙ ap (λ (l : Limits). part_of (slot_at t i) l.slots (laid lens (slot_at t i) w.lens)) k.limits
      ∙ ap (λ (n : ℕ). part_of (slot_at t i) n (laid lens (slot_at t i) w.lens)) (sym k.sized.each)
      ∙ laid_here lens (slot_at t i) w.lens in_lens

-- the answer and the buffer are the step's
said : (sought : Sought) (t : List Channel) (mem lens lines : List ℕ) (t2 : List Channel) (mem2 lens2 lines2 : List ℕ) (x : Chosen) (w w2 : Worked Stepped) → w ≡ w2
    → ((stored sought t mem lens lines x w).answer ≡ (stored sought t2 mem2 lens2 lines2 x w2).answer) × ((stored sought t mem lens lines x w).out ≡ (stored sought t2 mem2 lens2 lines2 x w2).out)
unfolding stored
said sought t mem lens lines t2 mem2 lens2 lines2 x w w2 e = (ap (λ (y : Worked Stepped). y.made.answer) e, ap (λ (y : Worked Stepped). y.out) e)

-- ---- the channel that is served

-- a request that is served is served at its index
pub index_served_lem : (i at rank : ℕ) (c : Channel) (mem lens : List ℕ) → Given (seeking (Index i)) at rank c mem lens → at ≡ i
index_served_lem i at rank c mem lens g = go (eqb i at) refl
  where
    go : (b : Bool) → eqb i at ≡ b → at ≡ i
    go true e = sym (eqb-true i at e)
    go false e = absurd (lt_irrefl 48 (subst (λ (k : ℕ). k < 48) (g.suits ∙ passed_by (eqb i at) 0 48 e) g.found))

-- and so is a question
pub asked_served : (i at rank : ℕ) (c : Channel) (mem lens : List ℕ) → Given (seeking (Question i)) at rank c mem lens → at ≡ i
asked_served i at rank c mem lens g =
    index_served_lem i at rank c mem lens
    (record { standing = g.standing; sized = g.sized; lines = g.lines; grade = g.grade; suits = g.suits; found = g.found; ranked = g.ranked })

-- ---- its own channel alone is changed

module _ (look : Look) (step : Step) (t : List Channel) (mem lens lines out : List ℕ) (shapes : Shapes look step out) where
  -- of the channel at index i, where it is the one that is served
  pub others_stay : (i : ℕ)
      → (Given look (choice look lines t).at (rank_in (choice look lines t).grade) (record_at t (choice look lines t).at) (own_mem t (choice look lines t).at mem) (own_lens t (choice look lines t).at lens)
      → (choice look lines t).at ≡ i)
      → OthersStay t mem lens i (serve_one look step t mem lens lines out)
  others_stay i is =
      serve_cases look step t mem lens lines out (OthersStay t mem lens i) nothing nothing
      (λ h below g.
      subst (λ (j : ℕ). OthersStay t mem lens j (stored look.sought t mem lens lines (choice look lines t) (worked look step t mem lens lines out))) (is g)
      (stored_others t mem lens lines h look.sought (choice look lines t) below (worked look step t mem lens lines out)
      (shapes at (rank_in (choice look lines t).grade) (record_at t at) (own_mem t at mem) (own_lens t at lens) g)))
    where
      at : ℕ
      at = (choice look lines t).at

      nothing : {why : Refusal} → OthersStay t mem lens i (leaves (Refused why) t mem lens lines out)
      nothing =
          record {
            records = λ j other. refl;
            octets = λ j less other. refl;
            lengths = λ j less other. refl;
            mem_before = refl;
            mem_behind = refl;
            lens_before = refl;
            lens_behind = refl;
          }

-- ---- its own channel alone is read

-- what a request and an arrival look for is told by the addresses, whatever the lines are
abbrev pub ByAddresses : Look → Type 0
ByAddresses look = (lines lines2 : List ℕ) (j : ℕ) (c d : Channel) → c.addresses ≡ d.addresses → graded look lines j c ≡ graded look lines2 j d

pub index_by_addresses : (i : ℕ) → ByAddresses (seeking (Index i))
index_by_addresses i lines lines2 j c d e = refl

pub question_by_addresses : (i : ℕ) → ByAddresses (seeking (Question i))
question_by_addresses i lines lines2 j c d e = refl

pub packet_by_addresses : (f : Fields) (q : Prefix) (start x : ℕ) → ByAddresses (record { sought = Packet f start x; prefix = q })
packet_by_addresses f q start x lines lines2 j c d e = ap (addressed f x q) e

pub nobody_by_addresses : (why : Refusal) → ByAddresses (seeking (Nobody why))
nobody_by_addresses why lines lines2 j c d e = refl

abbrev head_or : Addresses → List Addresses → Addresses
head_or a [] = a
head_or a (x ∷ l) = x

abbrev rest_of : List Addresses → List Addresses
rest_of [] = []
rest_of (x ∷ l) = l

-- so the same channel is chosen in tables with the same addresses
pub same_choice : (look : Look) → ByAddresses look → (lines lines2 : List ℕ) (j : ℕ) (t t2 : List Channel) → addresses_in t ≡ addresses_in t2
    → chosen_from look lines j t ≡ chosen_from look lines2 j t2
unfolding chosen_from
same_choice look by lines lines2 j [] [] e = refl
same_choice look by lines lines2 j [] (d ∷ t2) e = absurd (let z : ◌≡◌ {A = ℕ} 0 (suc (length (addresses_in t2))) = ap length e in omega (arith, z))
same_choice look by lines lines2 j (c ∷ t) [] e = absurd (let z : ◌≡◌ {A = ℕ} (suc (length (addresses_in t))) 0 = ap length e in omega (arith, z))
same_choice look by lines lines2 j (c ∷ t) (d ∷ t2) e =
    ap₂ (λ (g : ℕ) (r : Chosen). if leb g r.grade then record { at = j; grade = g } else r) (by lines lines2 j c d (ap (head_or c.addresses) e))
    (same_choice look by lines lines2 (j + 1) t t2 (ap rest_of e))

module _ (look : Look) (step : Step) (out : List ℕ) (shapes : Shapes look step out) (by : ByAddresses look)
    (t : List Channel) (mem lens lines : List ℕ) (i : ℕ)
    (is : Given look (choice look lines t).at (rank_in (choice look lines t).grade) (record_at t (choice look lines t).at) (own_mem t (choice look lines t).at mem) (own_lens t (choice look lines t).at lens)
    → (choice look lines t).at ≡ i) where
  -- what the step leaves, of the channel and the rank that are chosen
  abbrev made : List Channel → List ℕ → List ℕ → Chosen → Worked Stepped
  made s m l x = workedBy step s m l out x

  pub own_channel_alone : OwnChannelAlone (λ s m l li. serve_one look step s m l li out) i t mem lens lines
  own_channel_alone t2 mem2 lens2 lines2 e e2 same own = go (is_found x) refl
    where
      x : Chosen
      x = choice look lines t

      eq : x ≡ choice look lines2 t2
      eq = same_choice look by lines lines2 0 t t2 same

      Wanted : Type 0
      Wanted = SameFor i (serve_one look step t mem lens lines out) (serve_one look step t2 mem2 lens2 lines2 out)

      h : Lawful t mem lens
      h = (passing_is t mem lens lines e).lawful

      h2 : Lawful t2 mem2 lens2
      h2 = (passing_is t2 mem2 lens2 lines2 e2).lawful

      -- both serve the channel at index i
      both : (at : ℕ) → at ≡ i → SameOwn at t mem lens t2 mem2 lens2
      both at p = subst (λ (j : ℕ). SameOwn j t mem lens t2 mem2 lens2) (sym p) own

      found : is_found x ≡ true → Wanted
      found f =
          let less = ltb-true x.grade 48 f in
          let f2 : is_found (choice look lines2 t2) ≡ true = ap is_found (sym eq) ∙ f in
          let less2 = ltb-true (choice look lines2 t2).grade 48 f2 in
          let g = given look step t mem lens lines out h less in
          let g2 = given look step t2 mem2 lens2 lines2 out h2 less2 in
          let k = shapes x.at (rank_in x.grade) (record_at t x.at) (own_mem t x.at mem) (own_lens t x.at lens) g in
          let k2 = subst (λ (y : Chosen). Shaped (record_at t2 y.at) (made t2 mem2 lens2 y)) (sym eq)
          (shapes (choice look lines2 t2).at (rank_in (choice look lines2 t2).grade) (record_at t2 (choice look lines2 t2).at) (own_mem t2 (choice look lines2 t2).at mem2) (own_lens t2 (choice look lines2 t2).at lens2) g2) in
          let below = found_below look lines t mem lens h less in
          let below2 = subst (λ (y : Chosen). y.at < length t2) (sym eq) (found_below look lines2 t2 mem2 lens2 h2 less2) in
          let s = both x.at (is g) in
          let w = made t mem lens x in
          let w2 = made t2 mem2 lens2 x in
          let agree : w ≡ w2 =
          ap (λ (c : Channel). step c (rank_in x.grade) (own_mem t x.at mem) (own_lens t x.at lens) out) s.channel
          ∙ ap₂ (λ (m l : List ℕ). step (record_at t2 x.at) (rank_in x.grade) m l out) s.octets s.lengths in
          let one : serve_one look step t mem lens lines out ≡ stored look.sought t mem lens lines x w = serve_found look step t mem lens lines out e f in
          let two : serve_one look step t2 mem2 lens2 lines2 out ≡ stored look.sought t2 mem2 lens2 lines2 x w2 =
          serve_found look step t2 mem2 lens2 lines2 out e2 f2 ∙ ap (λ (y : Chosen). stored look.sought t2 mem2 lens2 lines2 y (made t2 mem2 lens2 y)) (sym eq) in
          let there = said look.sought t mem lens lines t2 mem2 lens2 lines2 x w w2 agree in
          let after : SameFor x.at (stored look.sought t mem lens lines x w) (stored look.sought t2 mem2 lens2 lines2 x w2) =
          record {
            answer = there.0;
            own =
                record {
                  channel = stored_record t mem lens lines h look.sought x below w k ∙ ap (λ (y : Worked Stepped). y.made.channel) agree ∙ sym (stored_record t2 mem2 lens2 lines2 h2 look.sought x below2 w2 k2);
                  octets = stored_mem t mem lens lines h look.sought x below w k ∙ ap (λ (y : Worked Stepped). y.mem) agree ∙ sym (stored_mem t2 mem2 lens2 lines2 h2 look.sought x below2 w2 k2);
                  lengths = stored_lens t mem lens lines h look.sought x below w k ∙ ap (λ (y : Worked Stepped). y.lens) agree ∙ sym (stored_lens t2 mem2 lens2 lines2 h2 look.sought x below2 w2 k2);
                };
            out = there.1;
          } in
          subst (λ (j : ℕ). SameFor j (serve_one look step t mem lens lines out) (serve_one look step t2 mem2 lens2 lines2 out)) (is g)
          (subst (λ (a : Called Answer Channel). SameFor x.at a (serve_one look step t2 mem2 lens2 lines2 out)) (sym one)
          (subst (λ (b : Called Answer Channel). SameFor x.at (stored look.sought t mem lens lines x w) b) (sym two) after))

      go : (b : Bool) → is_found x ≡ b → Wanted
      go true f = found f
      go false f =
          let one = serve_missing look step t mem lens lines out e f in
          let two = serve_missing look step t2 mem2 lens2 lines2 out e2 (ap is_found (sym eq) ∙ f) in
          subst (λ (a : Called Answer Channel). SameFor i a (serve_one look step t2 mem2 lens2 lines2 out)) (sym one)
          (subst (λ (b : Called Answer Channel). SameFor i (leaves (Refused (missing look.sought)) t mem lens lines out) b) (sym two)
          (record { answer = refl; own = own; out = refl }))
