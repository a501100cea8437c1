-- Laws of one of the settings: of the addresses seen before it, and one for each case of how it is looked at.
-- Assumes nothing.
use mathlib.Core.Path.{◌≡◌}
use mathlib.Core.Bool.{true, false}
use mathlib.Core.List.{List}
use Prim.Native.Nat.{ℕ, suc, ◌+◌, ◌-◌, ◌≤◌, ◌<◌}
use native.Mathlib.Omega.{arith}
use borrow.Author.Tests.{lt-ltb, le-ltb, le-leb, lt-leb}
use Rattle.channel.specs.declared.record.Addresses.{Addresses}
use Rattle.channel.specs.declared.record.Settings.{Settings}
use Rattle.channel.specs.Settings.{fit, fit_addresses, fit_limits, clash}
use Rattle.channel.proofs.SettingsLaws.{fit_is}
use Rattle.laws.proofs.Choice.{both}
use Rattle.settings.specs.Seeing.{Seen, unsound, addresses_at, clashes_seen, noted, see_one}

-- ---- the addresses of those from the i-th on, to the n-th

module _ (v : Seen) (a : Addresses) (n i : ℕ) where
  pub taken_none : n ≤ i → clashes_seen v a (n - i) i ≡ false
  unfolding clashes_seen
  taken_none h = let e : n - i ≡ 0 = omega arith in rw e

  pub taken_here : i < n → clash a (addresses_at v i) ≡ true → clashes_seen v a (n - i) i ≡ true
  unfolding clashes_seen
  taken_here h t = let e : n - i ≡ suc (n - (i + 1)) = omega arith in rw (e, t)

  pub taken_more : i < n → clash a (addresses_at v i) ≡ false → clashes_seen v a (n - i) i ≡ clashes_seen v a (n - (i + 1)) (i + 1)
  unfolding clashes_seen
  taken_more h t = let e : n - i ≡ suc (n - (i + 1)) = omega arith in rw (e, t)

-- ---- one more

-- settings that are fit ask for no more than this
pub bounded : (s : Settings) → fit s ≡ true → (s.limits.slots ≤ 128) × (s.limits.payload ≤ 1024)
unfolding fit
bounded s e = let f = fit_is s.limits (both (fit_addresses s.addresses) (fit_limits s.limits) e).1 in (f.most, f.payload)

module _ (v : Seen) (s : Settings) (lens : List ℕ) (j : ℕ) where
  pub one_spoilt : v.sound ≡ false → see_one v s lens j ≡ v
  unfolding see_one
  one_spoilt e = simp (e)

  module _ (sound : v.sound ≡ true) where
    pub one_many : 16 ≤ j → see_one v s lens j ≡ unsound v
    unfolding see_one
    one_many h = simp (sound, le-leb 16 j h)

    module _ (few : j < 16) where
      pub one_slots : 4096 < v.slots → see_one v s lens j ≡ unsound v
      unfolding see_one
      one_slots h = simp (sound, lt-leb 16 j few, lt-ltb 4096 v.slots h)

      module _ (slots : v.slots ≤ 4096) where
        pub one_octets : 2097152 < v.octets → see_one v s lens j ≡ unsound v
        unfolding see_one
        one_octets h = simp (sound, lt-leb 16 j few, le-ltb 4096 v.slots slots, lt-ltb 2097152 v.octets h)

        module _ (octets : v.octets ≤ 2097152) where
          pub one_unfit : fit s ≡ false → see_one v s lens j ≡ unsound v
          unfolding see_one
          one_unfit h = simp (sound, lt-leb 16 j few, le-ltb 4096 v.slots slots, le-ltb 2097152 v.octets octets, h)

          module _ (fits : fit s ≡ true) where
            pub one_taken : clashes_seen v s.addresses j 0 ≡ true → see_one v s lens j ≡ unsound v
            unfolding see_one
            one_taken h = simp (sound, lt-leb 16 j few, le-ltb 4096 v.slots slots, le-ltb 2097152 v.octets octets, fits, h)

            pub one_noted : clashes_seen v s.addresses j 0 ≡ false → see_one v s lens j ≡ noted v s j
            unfolding see_one
            one_noted h = simp (sound, lt-leb 16 j few, le-ltb 4096 v.slots slots, le-ltb 2097152 v.octets octets, fits, h)
