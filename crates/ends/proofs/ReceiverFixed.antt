-- No step changes what the settings fixed, so what the steps ask holds again after each.
-- Assumes nothing.
use mathlib.Core.Path.{◌≡◌, refl}
use mathlib.Core.Bool.{Bool}
use mathlib.Core.List.{List, []}
use Prim.Native.Nat.{ℕ}
use Rattle.channel.specs.declared.record.Channel.{Channel}
use Rattle.channel.specs.declared.step.Stepped.{Stepped}
use Rattle.channel.specs.Record.{receives, retries_out, unanswered, with_window}
use Rattle.channel.specs.Asked.{Asked}
use Rattle.channel.proofs.FixedLaws.{SameSettings, asked_again}
use Rattle.receiver.specs.Asked.{DataAsked}
use Rattle.receiver_data.specs.Sorting.{place_at}
use Rattle.receiver_data.specs.Moving.{moved_of}
use Rattle.receiver.specs.Receiving.{leaving, shut_for, open_step, control_step, tick_step}
use Rattle.receiver_data.specs.Data.{marking, accept_step, away_of, data_step, data_mem, data_lens}
use Rattle.receiver_data.specs.Taking.{take_step}
use Rattle.ends.proofs.ReceiverCases.{open_cases, control_cases, take_cases, tick_cases, data_cases, accept_cases}
use Rattle.ends.proofs.ReceiverKeeps.{data_stands, data_sized}

leaving_fixed : (c : Channel) (state ticks : ℕ) → SameSettings c (leaving c state ticks)
unfolding leaving
leaving_fixed c state ticks = (refl, refl)

shut_fixed : (c : Channel) (why : ℕ) → SameSettings c (shut_for c why)
unfolding leaving
shut_fixed c why = (refl, refl)

pub opening_fixed : (c : Channel) → SameSettings c (open_step c).channel
opening_fixed c = open_cases c (λ (s : Stepped). SameSettings c s.channel) (refl, refl) (refl, refl) (refl, refl)

pub control_fixed : (c : Channel) (opens : Bool) (number : ℕ) → SameSettings c (control_step c opens number).channel
control_fixed c opens number =
    control_cases c (λ (s : Stepped). SameSettings c s.channel) (refl, refl) (refl, refl) opens number (refl, refl)
    (leaving_fixed c 3 c.limits.closing)
    (shut_fixed c 2)
    (shut_fixed c 3)

accept_fixed : (c : Channel) (place flags : ℕ) → SameSettings c (accept_step c place flags).channel
accept_fixed c place flags =
    accept_cases c place flags (λ (s : Stepped). SameSettings c s.channel) (shut_fixed (with_window (marking c place flags) (moved_of c.limits (marking c place flags).marks c.window).window) 5) (refl, refl)

pub data_fixed : (c : Channel) (number flags : ℕ) → SameSettings c (data_step c number flags).channel
data_fixed c number flags =
    data_cases c number flags [] [] [] (λ (s : Stepped) (m l : List ℕ). SameSettings c s.channel) (refl, refl) (refl, refl) (refl, refl)
    (shut_fixed c 4)
    (λ o room. accept_fixed c (place_at c.limits c.window (away_of c number)) flags)

pub take_fixed : (c : Channel) (lens : List ℕ) (n : ℕ) → SameSettings c (take_step c lens n).channel
take_fixed c lens n = take_cases c lens n (λ (s : Stepped). SameSettings c s.channel) (refl, refl) (refl, refl) (λ some. (refl, refl))

pub tick_fixed : (c : Channel) → SameSettings c (tick_step c).channel
tick_fixed c = tick_cases c (SameSettings c) (refl, refl) (refl, refl) (λ e. (refl, refl)) (λ o. shut_fixed c retries_out) (λ o. shut_fixed c unanswered) (λ o. (refl, refl))

-- Data that arrives keeps what is asked, with the memory and the lengths that it leaves
pub data_asked : (c : Channel) (number flags : ℕ) (p mem lens : List ℕ)
    → c.addresses.direction ≡ receives
    → DataAsked c flags p mem lens
    → Asked (data_step c number flags).channel (data_mem c number p mem) (data_lens c number p lens)
data_asked c number flags p mem lens d a =
    asked_again c (data_step c number flags).channel (data_mem c number p mem) (data_lens c number p lens) (data_fixed c number flags)
    (data_stands c lens d a.asked.standing number p mem a.short flags a.few)
    (data_sized c lens d a.asked.standing number p mem a.short a.asked.sized)
