-- Each entry was sent by a request that was taken, after all statements before it, and no outcome before it ends the command.
use Rattle.std.proofs.Common.{◌≡◌, ◌⊎◌, inl, inr, ℕ, ◌+◌, ◌<◌, List, [], ◌∷◌, refl, sym, ap, subst, ◌∙◌, arith, Bool}
use Rattle.std.specs.Prelude.{Option, Some, None, Ok, true, false}
use Rattle.history_model.proofs.Lists.{all_at, in_none, in_cons}
use Rattle.reply_facts.proofs.Statements.{one_number}
use Rattle.command_model.specs.Writes.{ClientNumber, WriteCommand}
use Rattle.chunk_model.specs.Tables.{first_shard}
use Rattle.history_model.specs.History.{StatementNumber, Operation, Entry, IsIn}
use Rattle.base_model.specs.Identities.{RequestId}
use Rattle.reply_model.specs.Exchanges.{Asked, Answered, number_for}
use Rattle.reply_model.specs.Accounts.{Account}
use Rattle.command_model.specs.Command.{write_command, command_of}
use Rattle.reply_model.specs.Outcomes.{WasRefused, is_too_old, Done}
use Rattle.reply_model.specs.Cursors.{Cursor}
use Rattle.reply_facts.proofs.Requests.{one_asked}
use Rattle.reply_model.specs.Right.{ends, Sends, AreTold}
use Rattle.reply_model.specs.OneHistory.{EndsBefore, Shows, WasSent, IsReached, AreNumbered, ids_asked, AreDifferent}
use Rattle.node_laws.proofs.Views.{Reach, reach_of, View, account_in}
use Rattle.node_laws.proofs.Facts.{AreCut, AnswersFit, no_answer, one_answer}
use Rattle.node_laws.proofs.Cuts.{answer_goes}
use Rattle.node_laws.proofs.ReplySteps.{shows_cut}
use Rattle.node_laws.proofs.WriteFacts.{AreDoneBefore, WasMade}
use Rattle.node_laws.proofs.SeenStatements.{true_false}
use Rattle.node_laws.proofs.MadeEntries.{index_at}

number_at : (given : Option ClientNumber) (id : RequestId) (i k : ℕ)
    → number_for given id i ≡ record { session = (number_for given id k).session; transaction = (number_for given id k).transaction; index = i }
number_at None id i k = refl
number_at (Some by) id i k = refl

-- the reply to a write shows outcomes, which reach as far as its statements were sent
abbrev pub ShowsCut : (account : Account) (notes : List Reach) (a : Asked) (t : Answered) (write : WriteCommand) → Type 0
ShowsCut account notes a t write = (shown : Shows account a t write) × (write.ordered ≡ true → AreCut notes a.id shown.dones)

pub shows_of : (v : View) (asked : List Asked) (answered : List Answered) (cursors last : List Cursor) (told : List Answered)
    → AreDifferent (ids_asked asked) → AnswersFit v asked answered cursors told last → (t : Answered) (a : Asked) (write : WriteCommand) → IsIn t told
    → IsIn a asked → t.id ≡ a.id → command_of a.request ≡ Ok (write_command write) → ShowsCut (account_in v asked answered) v.reached a t write
shows_of v asked answered _ _ _ different (no_answer cursors) t a write i j own asks = absurd (in_none t i)
shows_of v asked answered _ _ _ different (one_answer cursors next last x rest f others) t a write i j own asks =
    by_place (in_cons t x rest i) (λ k. shows_of v asked answered next last rest different others t a write k j own asks)
  where
    by_place : (t ≡ x) ⊎ IsIn t rest → (IsIn t rest → ShowsCut (account_in v asked answered) v.reached a t write)
        → ShowsCut (account_in v asked answered) v.reached a t write
    by_place (inl same) more =
        let one : f.request ≡ a = one_asked f.request a asked different f.taken j (f.own ∙ ap (λ (y : Answered). y.id) (sym same) ∙ own) in
        subst (λ (y : Answered). ShowsCut (account_in v asked answered) v.reached a y write) (sym same)
        (subst (λ (b : Asked). ShowsCut (account_in v asked answered) v.reached b x write) one
        (shows_cut (account_in v asked answered) cursors f.request x v next write (ap (λ (b : Asked). command_of b.request) one ∙ asks) f.right f.settled))
    by_place (inr k) more = more k

module _ (account : Account) (notes : List Reach) (numbered : AreNumbered account.history) (first : (e : Entry) → IsIn e account.history → e.shard ≡ first_shard) where
  one_entry : (d e : Entry) → IsIn d account.history → IsIn e account.history → d.number ≡ e.number → d ≡ e
  one_entry = one_number account.history numbered first

  module _ (a : Asked) (t : Answered) (write : WriteCommand) (time index : ℕ)
      (reached : write.ordered ≡ true → AreDoneBefore account.history time write t.id index) (below : write.ordered ≡ true → index < reach_of a.id notes) where
    in_order : (ordered : Bool) (d : Done) → ends ordered d ≡ true → ordered ≡ true
    in_order true d over = refl
    in_order false d over = over

    -- so no answer ends there
    none_ends : (i : ℕ) (operations : List Operation) (dones : List Done) → AreTold account a t write i operations dones
        → (write.ordered ≡ true → AreCut notes a.id dones) → EndsBefore index write dones → ⊥
    none_ends i [] dones told cut over = subst (λ l. EndsBefore index write l) told over
    none_ends i (operation ∷ operations) [] told cut over = over
    none_ends i (operation ∷ operations) (d ∷ dones) told cut (inl (before, over, done)) =
        by_answer
        (answer_goes account one_entry a t write time index reached i d write.namespace operation d.answer (let at = told.0 in omega (arith, at, before)) refl
        told.1 over)
      where
        by_answer : (is_too_old d.answer ≡ true) ⊎ WasRefused d.answer → ⊥
        by_answer (inl old) = true_false (sym old ∙ done)
        by_answer (inr refused) =
            let ordered = in_order write.ordered d over in
            let least = (cut ordered).0 refused done in
            let less = below ordered in
            omega (arith, least, less, before)
    none_ends i (operation ∷ operations) (d ∷ dones) told cut (inr rest) =
        by_end (ends write.ordered d) told.2 rest (λ more. none_ends (i + 1) operations dones more (λ ordered. (cut ordered).1) rest)
      where
        by_end : (b : Bool) → (elim b as (λ x. Type 0) [ true ↦ dones ≡ [] | false ↦ AreTold account a t write (i + 1) operations dones ])
            → EndsBefore index write dones → (AreTold account a t write (i + 1) operations dones → ⊥) → ⊥
        by_end true none rest later = subst (λ l. EndsBefore index write l) none rest
        by_end false more rest later = later more

  -- the outcomes that a reply to its request shows do not end before it
  pub was_sent : (e : Entry) → WasMade account.history account.asked notes e
      → ((t : Answered) (a : Asked) (write : WriteCommand) → IsIn t account.answered → IsIn a account.asked → t.id ≡ a.id
      → command_of a.request ≡ Ok (write_command write) → ShowsCut account notes a t write) → WasSent account e
  was_sent e m shows = record {
    request = m.request;
    taken = m.taken;
    sends = m.sends;
    later = m.later;
    goes_on = λ t i own.
        let shown = shows t m.request m.sends.write i m.taken own m.sends.asks in (
          shown.0,
          λ over. none_ends m.request t m.sends.write e.time m.sends.index
              (λ ordered. subst (λ id. AreDoneBefore account.history e.time m.sends.write id m.sends.index) (sym own) (m.reached ordered)) m.below 0
              m.sends.write.operations shown.0.dones shown.0.told shown.1 over,
        );
  }

  pub is_reached : (e : Entry) → WasMade account.history account.asked notes e → IsReached account e
  is_reached e m = λ all i below.
      let ordered : m.sends.write.ordered ≡ true =
      all_at (λ (b : Asked). (sends : Sends b e) → sends.write.ordered ≡ true) m.request account.asked all m.taken m.sends in
      let number = m.sends.entry.statement.same_number in
      let at : m.sends.index ≡ e.number.index = index_at m.sends.write.number m.request.id m.sends.index ∙ ap (λ (n : StatementNumber). n.index) (sym number) in
      let r = m.reached ordered i (omega (arith, at, below)) in (
        r.0,
        r.1,
        r.2 ∙ number_at m.sends.write.number m.request.id i m.sends.index
            ∙ ap (λ (n : StatementNumber). record { session = n.session; transaction = n.transaction; index = i }) (sym number),
        r.3,
        r.4,
      )
