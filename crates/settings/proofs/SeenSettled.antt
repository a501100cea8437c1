-- What is seen of settings, one after another, and tested then, is what `settled` says of them where they lie.
-- Assumes nothing.
use mathlib.Core.Path.{◌≡◌, refl, sym, ap, ◌∙◌}
use mathlib.Core.Bool.{Bool, true, false, true≢false}
use mathlib.Core.List.{List}
use Prim.Native.Nat.{ℕ}
use native.Mathlib.Nat.{zero-add}
use native.Mathlib.Omega.{arith}
use borrow.Author.Tests.{le-leb, leb-true, eqb-true, eq-eqb}
use lib.Dec.{eqb}
use lib.ListN.{length, take}
use Rattle.laws.proofs.Choice.{both}
use Rattle.channel.specs.declared.record.Settings.{Settings}
use Rattle.channel.specs.declared.record.Channel.{Channel}
use Rattle.table.specs.Lent.{all_slots, all_octets}
use Rattle.table.specs.Surveying.{looked_at}
use Rattle.settings.specs.Configuring.{made_table, settled}
use Rattle.settings.specs.Seeing.{Seen, begun, seen, is_settled}
use Rattle.settings.proofs.AgreeLaws.{Settled, settled_is, is_settled_lem}
use Rattle.settings.proofs.SeenLaws.{Good, Counts, starts, free_begun, stays_spoilt, sees_good, sees_sound, first_seen}
use Rattle.settings.proofs.SeenPairs.{pairs_seen}

module _ (t : List Channel) (mem lens lines : List ℕ) (s : List Settings) where
  abbrev whole : Seen
  whole = seen s lens (begun lines)

  abbrev test : Bool
  test = is_settled whole (length t) (length s) (length mem) (length lens)

  counted : length lines ≡ 51 → Good (begun lines) 0 s → Counts whole (begun lines) s
  counted e g = sees_good lens 0 (begun lines) s (starts lines e) g

  -- what is not well at first is not at last
  lined : whole.sound ≡ true → length lines ≡ 51
  lined e = go (eqb (length lines) 51) refl
    where
      go : (b : Bool) → eqb (length lines) 51 ≡ b → length lines ≡ 51
      go true p = eqb-true _ _ p
      go false p = absurd (true≢false (sym e ∙ ap (λ (w : Seen). w.sound) (stays_spoilt lens 0 (begun lines) s p) ∙ p))

  from_settled : Settled t mem lens lines s → test ≡ true
  unfolding is_settled
  from_settled h =
      let good : Good (begun lines) 0 s = record { few = omega (arith, h.few); fit = h.fit; free = free_begun lines s } in
      let n = counted h.lined good in
      simp (
        le-leb 1 (length s) h.some,
        n.sound,
        eq-eqb (length t) (length s) h.count,
        eq-eqb whole.slots (length lens) (n.slots ∙ zero-add (all_slots (made_table s)) ∙ sym h.slots),
        eq-eqb whole.octets (length mem) (n.octets ∙ zero-add (all_octets (made_table s)) ∙ sym h.octets),
        le-leb (length s) 16 h.few,
        pairs_seen lens lines s h.lined good ∙ h.pairs,
      )

  from_test : test ≡ true → Settled t mem lens lines s
  unfolding is_settled
  from_test e =
      let p6 = both _ _ e in
      let p5 = both _ _ p6.0 in
      let p4 = both _ _ p5.0 in
      let p3 = both _ _ p4.0 in
      let p2 = both _ _ p3.0 in
      let p1 = both _ _ p2.0 in
      let l = lined p1.1 in
      let g = sees_sound lens 0 (begun lines) s (starts lines l) p1.1 in
      let n = counted l g in
      record {
        some = leb-true _ _ p1.0;
        few = omega (arith, g.few);
        fit = g.fit;
        pairs = sym (pairs_seen lens lines s l g) ∙ p6.1;
        count = eqb-true _ _ p2.1;
        slots = sym (eqb-true _ _ p3.1) ∙ n.slots ∙ zero-add (all_slots (made_table s));
        octets = sym (eqb-true _ _ p4.1) ∙ n.octets ∙ zero-add (all_octets (made_table s));
        lined = l;
      }

  pub test_settled : test ≡ settled t mem lens lines s
  test_settled = go test refl (settled t mem lens lines s) refl
    where
      go : (a : Bool) → test ≡ a → (b : Bool) → settled t mem lens lines s ≡ b → test ≡ settled t mem lens lines s
      go true p true q = p ∙ sym q
      go false p false q = p ∙ sym q
      go true p false q = absurd (true≢false (sym (is_settled_lem t mem lens lines s (from_test p)) ∙ q))
      go false p true q = absurd (true≢false (sym (from_settled (settled_is t mem lens lines s q)) ∙ p))

  -- the first of them, as many as are looked at, show as much as all
  pub looked_settled : settled t mem lens lines s
      ≡ is_settled (seen (take (looked_at (length s)) s) lens (begun lines)) (length t) (length s) (length mem) (length lens)
  looked_settled =
      sym test_settled
      ∙ ap (λ (v : Seen). is_settled v (length t) (length s) (length mem) (length lens)) (sym (first_seen lens s (begun lines) (looked_at (length s)) refl))
