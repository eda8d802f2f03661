use Rattle.std.proofs.Common.{◌≡◌, ◌∙◌, refl, length, sym, ap, subst, IsTrue}
use Rattle.journal_frames.specs.Files.{Stands}
use Rattle.journal_frames.proofs.Appended.{rest_listed}
use Rattle.journal_frames.proofs.Listed.{listed_rest}
use Rattle.journal_frames.proofs.Opened.{is_found, still_stand}
use Rattle.journal_frames.proofs.Unique.{not_both}
use Rattle.journal_frames.proofs.journal.Journal.open.Goals as goal

pub invariant_of-journal : goal.invariant_of-journal
invariant_of-journal g c ready tells =
    let is : IsTrue g.D.Disk.tells → c.deref.result.now ≡ g.D.Disk.content c.args.disk = λ t. c.deref.ensures.value ∙ c.in-Ok.ensures.file t in
    let found = is_found g.D.Disk.tells g.D.Disk.content g.D.Disk.may_leave g.D.Disk.moment g.D.Disk.left_at c.args.disk c.load.new.disk
    c.deref.result.now c.in-Ok-scan.found.0 c.in-Ok-scan.found.1 is (λ t. c.in-Ok.ensures.durable t) (λ t. c.in-Ok.ensures.undisturbed t)
    c.in-Ok-scan.ensures.found.0 c.in-Ok-scan.ensures.found.1 in
    let len : IsTrue g.D.Disk.tells → c.len.result ≡ length (g.D.Disk.content c.load.new.disk) = λ t. c.len.ensures ∙ sym c.deref.ensures.len
    ∙ ap length (is t ∙ sym (c.in-Ok.ensures.undisturbed t).same) in
    let rest = c.in-Ok-settle.ensures.closed c.in-Ok-scan.found.0 found len in
    rest_listed g.D.Disk.tells (g.D.Disk.content c.settle.new.disk) (g.D.Disk.may_leave c.settle.new.disk) _ _ c.in-Ok-scan.found.1 rest tells refl

pub returns-in-Ok-settle-clause-list : goal.returns-in-Ok-settle-clause-list
returns-in-Ok-settle-clause-list g c tells =
    let is : IsTrue g.D.Disk.tells → c.deref.result.now ≡ g.D.Disk.content c.args.disk = λ t. c.deref.ensures.value ∙ c.in-Ok.ensures.file t in
    let found = is_found g.D.Disk.tells g.D.Disk.content g.D.Disk.may_leave g.D.Disk.moment g.D.Disk.left_at c.args.disk c.load.new.disk
    c.deref.result.now c.in-Ok-scan.found.0 c.in-Ok-scan.found.1 is (λ t. c.in-Ok.ensures.durable t) (λ t. c.in-Ok.ensures.undisturbed t)
    c.in-Ok-scan.ensures.found.0 c.in-Ok-scan.ensures.found.1 in
    let len : IsTrue g.D.Disk.tells → c.len.result ≡ length (g.D.Disk.content c.load.new.disk) = λ t. c.len.ensures ∙ sym c.deref.ensures.len
    ∙ ap length (is t ∙ sym (c.in-Ok.ensures.undisturbed t).same) in
    let rest = c.in-Ok-settle.ensures.closed c.in-Ok-scan.found.0 found len in
    listed_rest _ _ rest.fits (rest.file tells)

pub returns-in-Ok-settle-clause-only : goal.returns-in-Ok-settle-clause-only
returns-in-Ok-settle-clause-only g c offset tells damaged =
    let is = c.deref.ensures.value ∙ c.in-Ok.ensures.file tells in
    let stands = subst (λ f. Stands f c.in-Ok-scan.found.0) is c.in-Ok-scan.ensures.found.0 in
    absurd (not_both (g.D.Disk.content c.args.disk) c.in-Ok-scan.found.0 offset stands damaged)

pub returns-in-Ok-settle-clause-as_damaged : goal.returns-in-Ok-settle-clause-as_damaged
returns-in-Ok-settle-clause-as_damaged g c offset tells damaged =
    let is = c.deref.ensures.value ∙ c.in-Ok.ensures.file tells in
    let stands = subst (λ f. Stands f c.in-Ok-scan.found.0) is c.in-Ok-scan.ensures.found.0 in
    absurd (not_both (g.D.Disk.content c.args.disk) c.in-Ok-scan.found.0 offset stands damaged)

pub returns-clause-as_damaged : goal.returns-clause-as_damaged
returns-clause-as_damaged g c offset tells damaged =
    let is = c.deref.ensures.value ∙ c.in-Ok.ensures.file tells in
    let stands = subst (λ f. Stands f c.in-Ok-scan.found.0) is c.in-Ok-scan.ensures.found.0 in
    absurd (not_both (g.D.Disk.content c.args.disk) c.in-Ok-scan.found.0 offset stands damaged)

pub returns-in-Ok-settle-clause-same : goal.returns-in-Ok-settle-clause-same
returns-in-Ok-settle-clause-same g c records tells before =
    let is : IsTrue g.D.Disk.tells → c.deref.result.now ≡ g.D.Disk.content c.args.disk = λ t. c.deref.ensures.value ∙ c.in-Ok.ensures.file t in
    let found = is_found g.D.Disk.tells g.D.Disk.content g.D.Disk.may_leave g.D.Disk.moment g.D.Disk.left_at c.args.disk c.load.new.disk
    c.deref.result.now c.in-Ok-scan.found.0 c.in-Ok-scan.found.1 is (λ t. c.in-Ok.ensures.durable t) (λ t. c.in-Ok.ensures.undisturbed t)
    c.in-Ok-scan.ensures.found.0 c.in-Ok-scan.ensures.found.1 in
    let len : IsTrue g.D.Disk.tells → c.len.result ≡ length (g.D.Disk.content c.load.new.disk) = λ t. c.len.ensures ∙ sym c.deref.ensures.len
    ∙ ap length (is t ∙ sym (c.in-Ok.ensures.undisturbed t).same) in
    still_stand g.D.Disk.tells g.D.Disk.content g.D.Disk.may_leave g.D.Disk.moment g.D.Disk.left_at c.args.disk c.load.new.disk c.deref.result.now
    c.in-Ok-scan.found.0 c.in-Ok-scan.found.1 c.settle.new.disk records (is tells) c.in-Ok-scan.ensures.found.0 (c.settle.ensures.held
    c.in-Ok-scan.found.0 found len tells) before

pub returns-clause-same : goal.returns-clause-same
returns-clause-same g c records tells before =
    let is : IsTrue g.D.Disk.tells → c.deref.result.now ≡ g.D.Disk.content c.args.disk = λ t. c.deref.ensures.value ∙ c.in-Ok.ensures.file t in
    let found = is_found g.D.Disk.tells g.D.Disk.content g.D.Disk.may_leave g.D.Disk.moment g.D.Disk.left_at c.args.disk c.load.new.disk
    c.deref.result.now c.in-Ok-scan.found.0 c.in-Ok-scan.found.1 is (λ t. c.in-Ok.ensures.durable t) (λ t. c.in-Ok.ensures.undisturbed t)
    c.in-Ok-scan.ensures.found.0 c.in-Ok-scan.ensures.found.1 in
    let len : IsTrue g.D.Disk.tells → c.len.result ≡ length (g.D.Disk.content c.load.new.disk) = λ t. c.len.ensures ∙ sym c.deref.ensures.len
    ∙ ap length (is t ∙ sym (c.in-Ok.ensures.undisturbed t).same) in
    still_stand g.D.Disk.tells g.D.Disk.content g.D.Disk.may_leave g.D.Disk.moment g.D.Disk.left_at c.args.disk c.load.new.disk c.deref.result.now
    c.in-Ok-scan.found.0 c.in-Ok-scan.found.1 c.settle.new.disk records (is tells) c.in-Ok-scan.ensures.found.0 (c.settle.ensures.held
    c.in-Ok-scan.found.0 found len tells) before
