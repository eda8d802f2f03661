-- The checks of a command, in their order.
use Rattle.std.proofs.Common.{◌≡◌, ℕ, List, [], ◌∷◌, refl, sym, ◌∙◌, ap, subst, Some, None, Err, codes}
use Rattle.std.specs.Prelude.{Result}
use Rattle.bson_model.specs.Tree.{Datum, Fields, field, get}
use Rattle.cluster_base.specs.Codes.{meaning_of}
use Rattle.cluster_base.specs.declared.code.Code.{Code}
use Rattle.command_model.specs.Checks.{Verdict, first_of}
use Rattle.command_model.specs.Command.{Command, by_form, by_verdict}
use Rattle.base_model.specs.Errors.{ErrorCode}
use Rattle.command_model.specs.Fields.{check_fields, names_of}
use Rattle.command_model.specs.Forms.{CommandForm, Sequences, check_database, check_sequences, command_by, database_of}
use Rattle.opmsg_model.specs.Requests.{Form}
use Rattle.command_words.specs.Drafts.{Drafts}
use Rattle.command_fields.specs.Verdicts.{ReadsBy}
use Rattle.command_words.specs.declared.draft.Draft.{Draft}
use Rattle.command_fields.specs.declared.fault.CheckFault.{CheckFault}
use Rattle.command_fields.specs.declared.fault.CheckFault.TheVariants.{Refused, Memory}
use Rattle.command_fields.proofs.Rulings.{last_of}

third_tells : (a b c : Verdict) (rest : List Verdict) (error : ErrorCode) → a ≡ None → b ≡ None → c ≡ Some error → first_of (a ∷ b ∷ c ∷ rest) ≡ Some error
third_tells a b c rest error first second third = rw (first, second, third) refl

sixth_tells : (a b c d e f : Verdict) → a ≡ None → b ≡ None → c ≡ None → d ≡ None → e ≡ None → first_of (a ∷ b ∷ c ∷ d ∷ e ∷ f ∷ []) ≡ f
sixth_tells a b c d e f first second third fourth fifth = rw (first, second, third, fourth, fifth) (last_of f)

module _ (form : CommandForm Command) (sent : Form) (own : List ℕ) (value : Datum) (others document : Fields) (database : List ℕ) (sequences : Sequences)
    (is : document ≡ field own value others) (place : database ≡ database_of sent document)
    (first : check_database sent (get (codes "$db") document) ≡ None) (second : form.check_own database value ≡ None) where
  placed : database ≡ database_of sent (field own value others)
  placed = place ∙ ap (λ (ms : Fields). database_of sent ms) is

  first_here : check_database sent (get (codes "$db") (field own value others)) ≡ None
  first_here = ap (λ (ms : Fields). check_database sent (get (codes "$db") ms)) (sym is) ∙ first

  second_here : form.check_own (database_of sent (field own value others)) value ≡ None
  second_here = ap (λ (d : List ℕ). form.check_own d value) (sym placed) ∙ second

  refused_so : (code : Code) → check_fields form.unlisted (form.rules database) (own ∷ []) others ≡ Some (meaning_of code) →
      by_form (Some form) sent own value others sequences ≡ Err (meaning_of code)
  refused_so code told =
      ap (λ (v : Verdict). by_verdict v (command_by form sent own value others sequences))
      (third_tells _ _ _ _ (meaning_of code) first_here second_here (ap (λ (d : List ℕ). check_fields form.unlisted (form.rules d) (own ∷ []) others) (sym placed) ∙ told))

  -- the fields are refused
  pub fields_refused : {X : Type 0} (reads : X → Type 0) (fault : CheckFault) → ReadsBy reads (Err fault) (check_fields form.unlisted (form.rules database) (own ∷ []) others) →
      Drafts document sequences (Err fault) (by_form (Some form) sent own value others sequences)
  fields_refused reads (Refused code) told = refused_so code told
  fields_refused reads Memory told = tt

  -- all passes, except what is checked last
  pub all_passed : (result : Result Draft CheckFault) → check_fields form.unlisted (form.rules database) (own ∷ []) others ≡ None → check_sequences form.sequence (names_of document) sequences ≡ None →
      form.check_needed document sequences ≡ None →
      Drafts document sequences result (by_verdict (form.check_last document sequences) (form.command database value document sequences)) →
      Drafts document sequences result (by_form (Some form) sent own value others sequences)
  all_passed result third fourth fifth told =
      let third_here : check_fields form.unlisted (form.rules (database_of sent (field own value others))) (own ∷ []) others ≡ None =
      ap (λ (d : List ℕ). check_fields form.unlisted (form.rules d) (own ∷ []) others) (sym placed) ∙ third in
      let fourth_here : check_sequences form.sequence (own ∷ names_of others) sequences ≡ None = ap (λ (ms : Fields). check_sequences form.sequence (names_of ms) sequences) (sym is) ∙ fourth in
      let fifth_here : form.check_needed (field own value others) sequences ≡ None = ap (λ (ms : Fields). form.check_needed ms sequences) (sym is) ∙ fifth in
      let told_here : Drafts document sequences result (by_verdict (form.check_last (field own value others) sequences) (command_by form sent own value others sequences)) =
      subst (λ (ms : Fields). Drafts document sequences result (by_verdict (form.check_last ms sequences) (form.command (database_of sent (field own value others)) value ms sequences))) is
      (subst (λ (d : List ℕ). Drafts document sequences result (by_verdict (form.check_last document sequences) (form.command d value document sequences))) placed told) in
      subst (λ (v : Verdict). Drafts document sequences result (by_verdict v (command_by form sent own value others sequences)))
      (sym (sixth_tells _ _ _ _ _ _ first_here second_here third_here fourth_here fifth_here)) told_here
