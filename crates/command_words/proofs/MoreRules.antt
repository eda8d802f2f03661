-- The results of the rules of `getMore` for a collection that was read.
use Rattle.std.proofs.Common.{◌≡◌, ℕ, List, [], ◌∷◌, refl, sym, ◌∙◌, ap, subst, Option, Some, None, Ok, Err, codes}
use Rattle.std.specs.Prelude.{Result, drop}
use Rattle.bson_model.specs.Tree.{Datum, Fields, field, get}
use Rattle.cluster_base.specs.Codes.{meaning_of}
use Rattle.cluster_base.specs.declared.code.Code.{Code}
use Rattle.cluster_base.specs.declared.namespace.Namespace.{Namespace}
use Rattle.command_model.specs.GetMore.{more_rules}
use Rattle.base_model.specs.Errors.{failed_to_parse}
use Rattle.command_model.specs.Fields.{check_fields}
use Rattle.command_model.specs.Forms.{check_collection}
use Rattle.command_model.proofs.Passed.{field_passed}
use Rattle.command_words.specs.Held.{IsCollection, collection_told}
use Rattle.command_words.specs.HeldRules.{more_rules_held}
use Rattle.command_words.proofs.Alike.{TellAlike, alike_self, behind_alike, later_got}

-- the error of a collection that was read is that of its name
told_of_collection : (collection : Result (Option Namespace) Code) (database : List ℕ) (o : Option Datum) (value : Datum) → IsCollection collection database o → o ≡ Some value →
    collection_told collection ≡ check_collection database value
told_of_collection (Ok None) database o value h is = let none : Path (Option Datum) None (Some value) = sym h ∙ is in cc
told_of_collection (Ok (Some namespace)) database o value h is =
    let both : Path (Option Datum) (Some h.0) (Some value) = sym h.1 ∙ is in
    let same : h.0 ≡ value = cc in
    sym (subst (λ (v : Datum). check_collection database v ≡ None) same h.2)
told_of_collection (Err code) database o value h is =
    let both : Path (Option Datum) (Some h.0) (Some value) = sym h.1 ∙ is in
    let same : h.0 ≡ value = cc in
    sym (subst (λ (v : Datum). check_collection database v ≡ Some (meaning_of code)) same h.2)

more_alike : (collection : Result (Option Namespace) Code) (database : List ℕ) (document : Fields) → IsCollection collection database (get (codes "collection") document) →
    TellAlike document (more_rules_held (collection_told collection)) (more_rules database)
more_alike collection database document h =
    (refl, ((λ value is. told_of_collection collection database (get (codes "collection") document) value h is), alike_self document (drop 1 (more_rules database))))

pub more_behind : (collection : Result (Option Namespace) Code) (database : List ℕ) (document : Fields) (own : List ℕ) (value : Datum) (others : Fields) → IsCollection collection database (get (codes "collection") document) →
    document ≡ field own value others →
    check_fields (Some failed_to_parse) (more_rules_held (collection_told collection)) (own ∷ []) others ≡ check_fields (Some failed_to_parse) (more_rules database) (own ∷ []) others
more_behind collection database document own value others h is =
    behind_alike document (more_rules_held (collection_told collection)) (more_rules database) (Some failed_to_parse) own value others (more_alike collection database document h) is

-- where the fields pass, the collection has no error
pub none_refused : (code : Code) (database : List ℕ) (document : Fields) (own : List ℕ) (value : Datum) (others : Fields) → IsCollection (Err code) database (get (codes "collection") document) →
    own ≡ codes "getMore" → document ≡ field own value others → check_fields (Some failed_to_parse) (more_rules database) (own ∷ []) others ≡ None → ⊥
none_refused code database document own value others h named is passed =
    let behind : get (codes "collection") document ≡ get (codes "collection") others =
    ap (λ (ms : Fields). get (codes "collection") ms) (is ∙ ap (λ (n : List ℕ). field n value others) named) ∙ later_got (codes "getMore") (codes "collection") value others refl in
    let told : check_collection database h.0 ≡ None = field_passed (more_rules database) (own ∷ []) others (codes "collection") h.0 passed (sym behind ∙ h.1) in
    let both : Path (Option _) None (Some (meaning_of code)) = sym told ∙ h.2 in
    cc
