-- `moving::refiling::refile_part` meets its contract: the segment is cut from the one part and filed in the other.
use Prim.Native.Nat.{ℕ, ◌*◌, ◌≤◌}
use mathlib.Core.Path.{◌≡◌, sym, ap, ap₂, ◌∙◌, subst}
use mathlib.Core.List.{List}
use lib.ListN.{length, set}
use Rattle.slots.specs.Slots.{laid}
use Rattle.slots.specs.Units.{segment_cut}
use Rattle.slots.proofs.SlotLaws.{filed_sized}
use Rattle.slots.proofs.Units.{fits}
use Rattle.channel.specs.Pairs.{again}
use Rattle.moving.specs.Refiling.{own_of, lens_of, unit_in}
use Rattle.moving.proofs.PartLaws.{cut_octets, cut_lens, cut_sized, cut_each, cut_size, cut_unit, put_octets, put_lens}
use Rattle.moving.proofs.refiling.refile_part.Goals as goal

pub cut_again-cut-requires : goal.cut_again-cut-requires
cut_again-cut-requires c =
    let a = c.args in
    let lies = c.requires.lies in
    let pre = c.requires.le_payload in
    let mem = a.mem.now in
    let lens = a.lens.now in
    let o = c.octets.result in
    let s = c.lengths.result in
    let octets = c.octets.ensures in
    let lengths = c.lengths.ensures in
    record {
      sized = cut_sized mem lens o.start o.end s.start s.end a.u.lot octets lengths lies.0;
      from_lt_slots = (lies.2.from, lies.2.count, cut_each mem lens o.start o.end s.start s.end a.u octets lengths lies.2);
      le_most = (pre.0, lies.1.sized.short, cut_size mem lens o.start o.end s.start s.end a.u octets lengths lies.2, pre.2);
    }

pub file_segment-requires : goal.file_segment-requires
file_segment-requires c =
    let a = c.args in
    let pre = c.requires.le_payload in
    let mem = a.mem.now in
    let lens = a.lens.now in
    let o = c.octets.result in
    let s = c.lengths.result in
    let whole = cut_unit mem lens o.start o.end s.start s.end a.u c.octets.ensures c.lengths.ensures in
    let is = c.cut_again-cut.ensures.1 ∙ ap (λ (w : List ℕ). segment_cut a.to.limits.payload (again w) a.i) whole in
    let o2 = c.octets-2.result in
    let s2 = c.lengths-2.result in
    record {
      sized = cut_sized mem lens o2.start o2.end s2.start s2.end a.to c.octets-2.ensures c.lengths-2.ensures c.requires.lies.1;
      slot_lt_slots = (pre.1, subst (λ (w : List ℕ). length w ≤ a.to.limits.payload) (sym is) (fits a.to.limits.payload (again (unit_in a.u mem lens)) a.i));
    }

pub returns : goal.returns
returns c =
    let a = c.args in
    let pre = c.requires.le_payload in
    let mem = a.mem.now in
    let lens = a.lens.now in
    let unit = again (unit_in a.u mem lens) in
    let cut = segment_cut a.to.limits.payload unit a.i in
    let o = c.octets.result in
    let s = c.lengths.result in
    let whole = cut_unit mem lens o.start o.end s.start s.end a.u c.octets.ensures c.lengths.ensures in
    let is = c.cut_again-cut.ensures.1 ∙ ap (λ (w : List ℕ). segment_cut a.to.limits.payload (again w) a.i) whole in
    let o2 = c.octets-2.result in
    let s2 = c.lengths-2.result in
    let octets = c.octets-2.ensures in
    let lengths = c.lengths-2.ensures in
    let sized = filed_sized a.to.limits.slots a.to.limits.payload (own_of a.to mem) (lens_of a.to lens) a.slot cut c.requires.lies.1.sized pre.1 (fits a.to.limits.payload unit a.i) in
    let m : c.file_segment.new.mem ≡ laid (own_of a.to mem) (a.slot * a.to.limits.payload) cut =
    c.file_segment.ensures.0
    ∙ ap₂ (λ (w p : List ℕ). laid w (a.slot * a.to.limits.payload) p) (cut_octets mem lens o2.start o2.end s2.start s2.end a.to octets lengths) is in
    let l : c.file_segment.new.lens ≡ set (lens_of a.to lens) a.slot (length cut) =
    c.file_segment.ensures.1
    ∙ ap₂ (λ (w p : List ℕ). set w a.slot (length p)) (cut_lens mem lens o2.start o2.end s2.start s2.end a.to octets lengths) is in (
      put_octets mem lens o2.start o2.end s2.start s2.end a.to octets lengths c.file_segment.new.mem (ap length m ∙ sized.exact) ∙ ap (laid mem a.to.octet) m,
      put_lens mem lens o2.start o2.end s2.start s2.end a.to octets lengths c.file_segment.new.lens (ap length l ∙ sized.each) ∙ ap (laid lens a.to.slot) l,
    )
