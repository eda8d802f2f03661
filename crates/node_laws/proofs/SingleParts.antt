-- Of a request without a client's number each statement is stored at most once.
use Rattle.std.proofs.Common.{◌≡◌, ℕ, List, [], ◌∷◌, refl, sym, ap, ◌∙◌, Bool}
use Rattle.std.specs.Prelude.{Option, Some, None, Ok, true, false, ◌==◌, if◌then◌else◌}
use Rattle.std.specs.List.{AllByRecursion}
use Rattle.std.proofs.lemmas.Bool.{eqb-true}
use Rattle.history_model.proofs.Lists.{all_at, in_first, in_later}
use Rattle.command_model.specs.Writes.{ClientNumber, WriteCommand}
use Rattle.command_model.specs.Command.{write_command, command_of}
use Rattle.chunk_model.specs.Tables.{first_shard}
use Rattle.history_model.specs.History.{StatementNumber, Entry, IsIn}
use Rattle.base_model.specs.Identities.{RequestId}
use Rattle.reply_model.specs.Exchanges.{Asked, number_for, is_session_of, entries_by}
use Rattle.reply_model.specs.Right.{Sends, IsStored, AreSingle}
use Rattle.reply_model.specs.OneHistory.{KeepsNumbers, AreNumbered, ids_asked, AreDifferent}
use Rattle.reply_facts.proofs.Requests.{same_id, one_asked, by_in}

-- a request that was taken sent the entry's statement
pub record IsFrom (asked : List Asked) (e : Entry) : Type 0 where
  pub request : Asked
  pub taken : IsIn request asked
  pub sends : Sends request e

write_is : (a : Asked) (x y : WriteCommand) → command_of a.request ≡ Ok (write_command x) → command_of a.request ≡ Ok (write_command y) → x ≡ y
write_is a x y e f = cc

module _ (asked : List Asked) (a : Asked) (write : WriteCommand) (different : AreDifferent (ids_asked asked)) (taken : IsIn a asked)
    (asks : command_of a.request ≡ Ok (write_command write)) (none : write.number ≡ None) where
  -- a router's own number names its request
  by_session : (given : Option ClientNumber) (id : RequestId) (n : ℕ) → is_session_of a.id (number_for given id n).session ≡ true → id ≡ a.id
  by_session None id n own = same_id id a.id own
  by_session (Some by) id n own = absurd (cc)

  stored : (e : Entry) → IsFrom asked e → is_session_of a.id e.number.session ≡ true → IsStored a.id write e
  stored e f own =
      let sent = f.sends.entry in
      let number = sent.statement.same_number in
      let id : f.request.id ≡ a.id = by_session f.sends.write.number f.request.id f.sends.index
      (ap (λ (k : StatementNumber). is_session_of a.id k.session) (sym number) ∙ own) in
      let one : f.request ≡ a = one_asked f.request a asked different f.taken taken id in
      let is : f.sends.write ≡ write = write_is a f.sends.write write (ap (λ (b : Asked). command_of b.request) (sym one) ∙ f.sends.asks) asks in
      let given : f.sends.write.number ≡ None = ap (λ (c : WriteCommand). c.number) is ∙ none in
      let full : e.number ≡ number_for None a.id f.sends.index = number ∙ ap (λ g. number_for g f.request.id f.sends.index) given
      ∙ ap (λ i. number_for None i f.sends.index) id in
      let at : e.number.index ≡ f.sends.index = ap (λ (k : StatementNumber). k.index) full in
      record {
        before = sent.prefix;
        operation = sent.operation;
        back = sent.back;
        all = ap (λ (c : WriteCommand). c.operations) (sym is) ∙ sent.both;
        at = sent.at ∙ sym at;
        statement = record {
          same_number = full ∙ ap (λ n. number_for None a.id n) (sym at);
          name = sent.statement.name ∙ ap (λ (c : WriteCommand). c.namespace) is;
          does = sent.statement.does;
        };
      }

  pub singles : (entries : List Entry) → AllByRecursion (IsFrom asked) entries → AreNumbered entries
      → AllByRecursion (λ (e : Entry). e.shard ≡ first_shard) entries → AreSingle a.id write (entries_by a.id entries)
  singles [] sent numbered first = tt
  singles (e ∷ entries) sent numbered first =
      by_own (is_session_of a.id e.number.session) refl (singles entries sent.1 numbered.1 first.1)
    where
      other : is_session_of a.id e.number.session ≡ true → (d : Entry) → IsIn d entries → is_session_of a.id d.number.session ≡ true
          → (d.number.index == e.number.index) ≡ false
      other own d i mine = by_test (d.number.index == e.number.index) refl
        where
          by_test : (b : Bool) → (d.number.index == e.number.index) ≡ b → (d.number.index == e.number.index) ≡ false
          by_test true h =
              let index : d.number.index ≡ e.number.index = eqb-true _ _ h in
              let s = stored d (all_at (IsFrom asked) d entries sent.1 i) mine in
              let t = stored e sent.0 own in
              absurd ((all_at (KeepsNumbers e) d entries numbered.0 i).apart (first.0 ∙ sym (all_at (λ (x : Entry). x.shard ≡ first_shard) d entries first.1 i))
              (s.statement.same_number ∙ ap (λ n. number_for None a.id n) index ∙ sym t.statement.same_number))
          by_test false h = h

      all_other : is_session_of a.id e.number.session ≡ true → (rest : List Entry)
          → ((d : Entry) → IsIn d rest → IsIn d entries × (is_session_of a.id d.number.session ≡ true))
          → AllByRecursion (λ (d : Entry). (d.number.index == e.number.index) ≡ false) rest
      all_other own [] stand = tt
      all_other own (d ∷ rest) stand =
          let here = stand d (in_first d rest) in
          (other own d here.0 here.1, all_other own rest (λ x i. stand x (in_later x d rest i)))

      by_own : (b : Bool) → is_session_of a.id e.number.session ≡ b → AreSingle a.id write (entries_by a.id entries)
          → AreSingle a.id write (if b then e ∷ entries_by a.id entries else entries_by a.id entries)
      by_own true h more = (stored e sent.0 h, all_other h (entries_by a.id entries) (λ d i. by_in a.id entries d i), more)
      by_own false h more = more
