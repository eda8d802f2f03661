-- A start whose arguments start no nodes leaves everything as it was.
use Rattle.std.specs.Prelude.{◌≡◌, ◌⊎◌, ℕ, Option, Some, None, IfSome, IsNone, IsSome, List, map}
use Rattle.std.proofs.Common.{refl, inl, inr, arith}
use Rattle.outside.specs.Devices.{SourceCall, SinkCall, SinkIsUntouched, SourceIsUntouched}
use Rattle.outside.specs.Notes.{Note}
use Rattle.outside.proofs.Relations.{none_fell_self}
use Rattle.cluster_service.specs.Openings.{DiskFacts}
use Rattle.cluster_service.specs.declared.arguments.Command.{Command}
use Rattle.cluster_service.proofs.Counts.{all_still}
use Rattle.cluster_main.specs.Disks.{IsLeft}

-- where there is not some it is none
pub none_unless : (count : Option ℕ) → ¬ IsSome count → IsNone count
none_unless None never = refl
none_unless (Some n) never = absurd (never refl)

pub if_some : {X : Type 0} (o : Option X) (P Q : X → Type 0) → IfSome o P → ((x : X) → P x → Q x) → IfSome o Q
if_some None P Q is then = tt
if_some (Some x) P Q is then = then x is

-- where a port was refused, the same of the lists of the disks
pub port_or : (one port same other : Type 0) → (same → other) → one ⊎ (port × same) → one ⊎ (port × other)
port_or one port same other so (inl x) = inl x
port_or one port same other so (inr (refused, all)) = inr (refused, so all)

pub port_last : (one two port same other : Type 0) → (same → other) → one ⊎ (two ⊎ (port × same)) → one ⊎ (two ⊎ (port × other))
port_last one two port same other so (inl x) = inl x
port_last one two port same other so (inr x) = inr (port_or two port same other so x)

-- a status of a start in which no arguments were read
other_than : (status other : ℕ) → ¬ (other ≡ 2) → ¬ (other ≡ 7) → (status ≡ 2) ⊎ (status ≡ 7) → ¬ (status ≡ other)
other_than status other no_two no_seven (inl two) is = no_two (omega (arith, two, is))
other_than status other no_two no_seven (inr seven) is = no_seven (omega (arith, seven, is))

-- the disks are as they were: no arguments were read
pub as_they_were : {D : Type 0} (status : ℕ) (started : Type 0) (given : Option Command) (source : SourceCall) (sink : SinkCall) (noted notes : List Note)
    (gives : ℕ → Type 0) (facts : DiskFacts D) (disks : List D) → ¬ started → given ≡ None → SourceIsUntouched source → SinkIsUntouched sink → (status ≡ 2) ⊎ (status ≡ 7)
    → IsLeft status started given source sink noted notes gives facts disks disks 0
as_they_were {D} status started given source sink noted notes gives facts disks never none took put ended = record {
  places = refl;
  disk_fault = all_still (status ≡ 5) (map facts.fault_count disks) (map facts.fault_count disks)
      (other_than status 5 (λ is. omega (arith, is)) (λ is. omega (arith, is)) ended) refl;
  none_fell = none_fell_self (map facts.fault_count disks);
  unstarted = λ any. (refl, refl, took, put);
  untouched = λ is. refl;
  six = λ is. absurd (other_than status 6 (λ e. omega (arith, e)) (λ e. omega (arith, e)) ended is);
  refused = rw none tt;
  headline = rw none tt;
  durable = λ is. absurd (never is);
}
