-- The catalogue passes on what is under way.
use Rattle.std.proofs.Common.{◌≡◌, ◌≢◌, ◌⊎◌, inl, inr, ℕ, ◌+◌, ◌<◌, List, [], ◌∷◌, refl, sym, ap, subst, ◌∙◌, Bool}
use Rattle.std.specs.Prelude.{Option, Some, None, true, false, IsSome}
use Rattle.std.specs.List.{AllByRecursion}
use Rattle.bson_model.specs.Tree.{Datum}
use Rattle.base_model.specs.Identities.{RequestId}
use Rattle.history_model.specs.History.{IsIn}
use Rattle.history_model.proofs.Lists.{in_first}
use Rattle.chunk_model.specs.Changes.{Change, known_table}
use Rattle.chunk_model.specs.Tables.{Table}
use Rattle.node_model.specs.Letters.{At, no_time, split_ask, Letter, Input, letter_input, Effect}
use Rattle.node_model.specs.States.{Catalogue}
use Rattle.node_model.specs.CatalogueRows.{CatalogueRow, catalogue_create, catalogue_tell, catalogue_split, catalogue_bound, catalogue_none, catalogue_skip, catalogue_moment, catalogue_opened, catalogue_client, heard, told, split_told}
use Rattle.node_laws.proofs.CatalogueAnswers.{created_known}
use Rattle.node_progress.specs.UnderWay.{Thing, a_table, Brings, IsFor}
use Rattle.node_progress.proofs.Things.{home, IsTimeAt, catalogue_idle}
use Rattle.node_progress.proofs.Versions.{IsWell}

-- one of these messages is for the thing
pub record IsAmong (mail : List Letter) (t : Thing) : Type 0 where
  pub letter : Letter
  pub sent : IsIn letter mail
  pub brings : IsFor t letter

pub only_among : (m : Letter) (t : Thing) → IsFor t m → IsAmong (m ∷ []) t
only_among m t is = record { letter = m; sent = in_first m []; brings = is }

-- a table that is to be there is there: a new one, one that was requested to be created, and one that a shard wants, of which it was told
some_if : (o : Option Table) → (o ≡ None → ⊥) → IsSome o
some_if None there = absurd (there refl)
some_if (Some t) there = refl

-- what a shard wants is known
abbrev pub IsKnownTo : List Change → Thing → Type 0
IsKnownTo changes t = (node : ℕ) (namespace : List ℕ) → t ≡ a_table node namespace false no_time → known_table namespace changes ≡ None → ⊥

there_if : (create : Bool) (o : Option Table) → (create ≡ false) ⊎ IsSome o → (create ≡ false → o ≡ None → ⊥) → IsSome o
there_if create o (inr some) known = some
there_if create o (inl not_created) known = some_if o (known not_created)

module _ (c : Catalogue) (m : Letter) (t : Thing) where
  splits : (time : ℕ) (id : RequestId) (namespace : List ℕ) (middle : Datum) (found : Bool) → m.body ≡ split_ask id namespace middle → IsFor t m
      → IsAmong (split_told c m time id found ∷ []) t
  splits time id namespace middle found says is =
      let l = subst (λ b. Brings t m.sender m.receiver b) says is in
      only_among (split_told c m time id found) t (l.0, l.2)

pub catalogue_passes : (c : Catalogue) (m : Letter) (f : Effect) (d : Catalogue) (t : Thing) → m.receiver ≡ 0 → home t ≢ 0 → (IsTimeAt t m.receiver → ⊥)
    → IsKnownTo c.changes t → IsFor t m → CatalogueRow c (letter_input m) f d → IsAmong f.mail t
catalogue_passes _ _ _ _ t place own timeless known is (catalogue_create c m namespace at x says new) =
    let l = subst (λ b. Brings t m.sender m.receiver b) says is in
    let made = created_known namespace (heard c m + 1) c.changes x new in
    only_among (told c m (heard c m + 1) namespace true at (known_table namespace (x ∷ c.changes))) t
    (l.0, λ none. subst (λ o. IsSome o) (sym made.1) refl)
catalogue_passes _ _ _ _ t place own timeless known is (catalogue_tell c m namespace create at says there) =
    let l = subst (λ b. Brings t m.sender m.receiver b) says is in
    only_among (told c m (heard c m) namespace create at (known_table namespace c.changes)) t (
      l.0,
      λ none. there_if create (known_table namespace c.changes) there
          (λ not_created. known m.sender namespace (l.0 ∙ (ap (λ b. a_table m.sender namespace b at) not_created ∙ ap (λ a. a_table m.sender namespace false a) none))),
    )
catalogue_passes _ _ _ _ t place own timeless known is (catalogue_split c m id namespace middle x says new) = splits c m t _ id namespace middle true says is
catalogue_passes _ _ _ _ t place own timeless known is (catalogue_bound c m id namespace middle says there) = splits c m t _ id namespace middle true says is
catalogue_passes _ _ _ _ t place own timeless known is (catalogue_none c m id namespace middle says none) = splits c m t _ id namespace middle false says is
catalogue_passes _ _ _ _ t place own timeless known is (catalogue_skip c m none) = absurd (catalogue_idle t m.sender m.receiver m.body place own timeless none is)

-- WHAT IT SENDS

-- what an input brings: a message goes from one of so many nodes
abbrev pub IsFrom : (count : ℕ) → Input → Type 0
IsFrom count i = (m : Letter) → i ≡ letter_input m → m.sender < count

told_well : (changes : List Change) (count : ℕ) (c : Catalogue) (m : Letter) (time : ℕ) (namespace : List ℕ) (create : Bool) (at : At) (o : Option Table)
    → c.me < count → m.sender < count → IsWell changes count (told c m time namespace create at o)
told_well changes count c m time namespace create at o own from = record { knowing = λ a asks. absurd (cc asks); first = λ a asks. absurd (cc asks); plain = tt; from = own; to = from }

split_well : (changes : List Change) (count : ℕ) (c : Catalogue) (m : Letter) (time : ℕ) (id : RequestId) (found : Bool)
    → c.me < count → m.sender < count → IsWell changes count (split_told c m time id found)
split_well changes count c m time id found own from = record { knowing = λ a asks. absurd (cc asks); first = λ a asks. absurd (cc asks); plain = tt; from = own; to = from }

pub catalogue_well : (changes : List Change) (count : ℕ) (c d : Catalogue) (i : Input) (f : Effect) → c.me < count → IsFrom count i → CatalogueRow c i f d
    → AllByRecursion (IsWell changes count) f.mail
catalogue_well changes count _ _ _ _ own from (catalogue_create c m namespace at x says new) =
    (told_well changes count c m _ namespace true at _ own (from m refl), tt)
catalogue_well changes count _ _ _ _ own from (catalogue_tell c m namespace create at says there) =
    (told_well changes count c m _ namespace create at _ own (from m refl), tt)
catalogue_well changes count _ _ _ _ own from (catalogue_split c m id namespace middle x says new) = (split_well changes count c m _ id true own (from m refl), tt)
catalogue_well changes count _ _ _ _ own from (catalogue_bound c m id namespace middle says there) =
    (split_well changes count c m _ id true own (from m refl), tt)
catalogue_well changes count _ _ _ _ own from (catalogue_none c m id namespace middle says none) =
    (split_well changes count c m _ id false own (from m refl), tt)
catalogue_well changes count _ _ _ _ own from (catalogue_skip c m none) = tt
catalogue_well changes count _ _ _ _ own from (catalogue_moment c moment) = tt
catalogue_well changes count _ _ _ _ own from (catalogue_opened c) = tt
catalogue_well changes count _ _ _ _ own from (catalogue_client c link number request) = tt
