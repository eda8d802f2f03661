-- What a call of the program says about its devices, the source, the sink and the disks: their observable content before and after the call, and their counts
-- of faults.
use Rattle.std.specs.Prelude.{◌≡◌, ◌⊎◌, ℕ, ◌≤◌, Bool, List, [], ◌∷◌, map}
use Rattle.outside.specs.Causes.{Rose}
use Rattle.outside.specs.Streams.{Took, Put}

-- a source over a call: whether its bytes are observable, the bytes that were left, and its count of faults
pub record SourceCall : Type 0 where
  pub tells : Bool
  pub left_before : List ℕ
  pub left_after : List ℕ
  pub faults_before : ℕ
  pub faults_after : ℕ

-- a sink over a call: whether its bytes are observable, the bytes that were written to it, and its count of faults
pub record SinkCall : Type 0 where
  pub tells : Bool
  pub held_before : List ℕ
  pub held_after : List ℕ
  pub faults_before : ℕ
  pub faults_after : ℕ

-- Disks over a call, in the order of a list: whether their files are observable, the files, the places of the disks, and their counts of faults.
pub record DisksCall : Type 0 where
  pub tells : Bool
  pub files_before : List (List ℕ)
  pub files_after : List (List ℕ)
  pub places_before : List (List ℕ)
  pub places_after : List (List ℕ)
  pub faults_before : List ℕ
  pub faults_after : List ℕ

-- a source before and after, seen by these functions
abbrev pub source_call : {S : Type 0} → Bool → (S → List ℕ) → (S → ℕ) → S → S → SourceCall
source_call told left fault_count before after = record {
  tells = told;
  left_before = left before;
  left_after = left after;
  faults_before = fault_count before;
  faults_after = fault_count after;
}

-- a sink before and after
abbrev pub sink_call : {K : Type 0} → Bool → (K → List ℕ) → (K → ℕ) → K → K → SinkCall
sink_call told held fault_count before after = record {
  tells = told;
  held_before = held before;
  held_after = held after;
  faults_before = fault_count before;
  faults_after = fault_count after;
}

-- disks before and after, in one order
abbrev pub disks_call : {D : Type 0} → Bool → (D → List ℕ) → (D → List ℕ) → (D → ℕ) → List D → List D → DisksCall
disks_call told content place fault_count before after = record {
  tells = told;
  files_before = map content before;
  files_after = map content after;
  places_before = map place before;
  places_after = map place after;
  faults_before = map fault_count before;
  faults_after = map fault_count after;
}

-- the source gave these bytes, where they are observable
abbrev pub SourceGave : SourceCall → List ℕ → Type 0
SourceGave call bytes = Took call.tells call.left_before bytes call.left_after

-- the source's count of faults is unchanged
abbrev pub SourceIsCalm : SourceCall → Type 0
SourceIsCalm call = call.faults_after ≡ call.faults_before

-- the source is unchanged
abbrev pub SourceIsUntouched : SourceCall → Type 0
SourceIsUntouched call = SourceGave call [] × SourceIsCalm call

-- the sink took these bytes, where they are observable
abbrev pub SinkTook : SinkCall → List ℕ → Type 0
SinkTook call bytes = Put call.tells call.held_before bytes call.held_after

-- the sink's count of faults is unchanged
abbrev pub SinkIsCalm : SinkCall → Type 0
SinkIsCalm call = call.faults_after ≡ call.faults_before

-- the sink is unchanged
abbrev pub SinkIsUntouched : SinkCall → Type 0
SinkIsUntouched call = SinkTook call [] × SinkIsCalm call

-- one of these counts of faults rose, before and after in one order
abbrev pub OneRose : List ℕ → List ℕ → Type 0
OneRose (before ∷ befores) (after ∷ afters) = Rose before after ⊎ OneRose befores afters
OneRose befores afters = ⊥

-- no count fell, before and after in one order
abbrev pub NoneFell : List ℕ → List ℕ → Type 0
NoneFell [] [] = Unit {0}
NoneFell (before ∷ befores) (after ∷ afters) = (before ≤ after) × NoneFell befores afters
NoneFell befores afters = ⊥

-- each disk is in its place
abbrev pub DisksAreInPlace : DisksCall → Type 0
DisksAreInPlace call = call.places_after ≡ call.places_before
