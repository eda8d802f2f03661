-- How many statements of a session were counted, once those of a record were.
use Rattle.std.proofs.Common.{◌≡◌, ◌+◌, ◌≤◌, ℕ, List, refl, ap, ◌∙◌, arith}
use Rattle.std.specs.Prelude.{Bool, true, false, Option, Some, if◌then◌else◌}
use Rattle.std.specs.Option.{unwrap_or}
use Rattle.cluster_base.specs.declared.identity.Session.{Session}
use Rattle.history_model.specs.History as history
use Rattle.history_model.specs.Notes.{same_session}
use Rattle.history_model.proofs.Noted.{same_session_is}
use Rattle.session_book.specs.Places.{place_of}
use Rattle.session_book.specs.Records.{counted}
use Rattle.session_book.proofs.Places.{itself}

module _ (old new : List (Session × ℕ)) (s : history.Session) (count : ℕ)
    (after : (x : history.Session) → place_of new x ≡ (if same_session s x then Some count else place_of old x)) where
  pub counted_here : counted new s ≡ count
  counted_here =
      ap (λ (o : Option ℕ). unwrap_or o 0) (after s) ∙ ap (λ (b : Bool). unwrap_or (if b then Some count else place_of old s) 0) (itself s)

  pub counted_more : (k : ℕ) → count ≡ counted old s + k → (x : history.Session) → counted new x ≡ counted old x + ((if same_session s x then k else 0) + 0)
  counted_more k more x = ap (λ (o : Option ℕ). unwrap_or o 0) (after x) ∙ by_test (same_session s x) refl
    where
      by_test : (b : Bool) → same_session s x ≡ b → unwrap_or (if b then Some count else place_of old x) 0 ≡ counted old x + ((if b then k else 0) + 0)
      by_test true here =
          let same : counted old s ≡ counted old x = ap (λ (y : history.Session). counted old y) (same_session_is s x here) in
          omega (arith, more, same)
      by_test false apart = omega arith

pub room_step : (b : Bool) (before k old_room new_room : ℕ) → (b ≡ true → before + k ≤ new_room) → old_room ≤ new_room → before ≤ old_room →
    before + ((if b then k else 0) + 0) ≤ new_room
room_step true before k old_room new_room here more room = omega (arith, here refl)
room_step false before k old_room new_room here more room = omega (arith, more, room)

pub counted_on : (before after left rest k : ℕ) {all : ℕ} → left ≡ k + rest → after ≡ before + (k + 0) → before + left ≡ all → after + rest ≡ all
counted_on before after left rest k cut more whole = omega (arith, cut, more, whole)
