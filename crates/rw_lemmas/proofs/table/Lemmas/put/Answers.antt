use Rattle.std.proofs.Common.{◌≡◌, ◌<◌, ◌∙◌, sym, ap, subst, length}
use Rattle.std.proofs.lemmas.Result.{on_err_weaker}
use Rattle.std.specs.Option.{IfSome}
use Rattle.rw_sequents.specs.After.{IsCounted}
use Rattle.rw_sequents.proofs.Runs.{on_err}
use Rattle.rw_library.specs.Entries.{entry_name, place_of}
use Rattle.rw_lemmas.specs.Affected.{AtMostAffected}
use Rattle.rw_lemmas.specs.Table.{put_at, with_entry}
use Rattle.rw_lemmas.proofs.Whole.{counted_beside, with_whole}
use Rattle.rw_lemmas.proofs.Unaffected.{none_more, table_is}
use Rattle.rw_lemmas.proofs.table.Lemmas.put.Goals as goal

pub renew-requires : goal.renew-requires
renew-requires g c =
    with_whole c.self.inside.library c.self.inside.proofs c.in_ok-copy.field-0 c.in_ok-proof_of_entry.field-0 c.place_of-place.result c.put_at.new.items c.put_at-2.new.items c.self.invariant.0
    (subst (λ t. length t.library.entries < 4294967294) (sym c.self.view_is) c.requires.few)
    (subst (λ o. IfSome o IsCounted) (sym c.in_ok-proof_of_entry.ensures) (counted_beside c.args.entry.now c.args.proof.now c.requires.counted))
    (c.in_ok-put_at.ensures ∙ ap (λ l. put_at c.place_of-place.result c.in_ok-copy.field-0 l.entries) c.in_ok-library.ensures)
    (c.in_ok-put_at-2.ensures ∙ ap (put_at c.place_of-place.result c.in_ok-proof_of_entry.field-0) (c.in_ok-proofs.ensures ∙ c.as_slice-2.ensures))

pub returns-in_err-refusal-clause-memory : goal.returns-in_err-refusal-clause-memory
returns-in_err-refusal-clause-memory g c = on_err _ (none_more _ _ _)

pub returns-in-Some-clause-memory : goal.returns-in-Some-clause-memory
returns-in-Some-clause-memory g c = none_more _ _ _

pub returns-in_err-library-clause-memory : goal.returns-in_err-library-clause-memory
returns-in_err-library-clause-memory g c = on_err _ (none_more _ _ _)

pub returns-in_err-proofs-clause-memory : goal.returns-in_err-proofs-clause-memory
returns-in_err-proofs-clause-memory g c = on_err _ (none_more _ _ _)

pub returns-in_err-copy-clause-memory : goal.returns-in_err-copy-clause-memory
returns-in_err-copy-clause-memory g c = on_err _ (none_more _ _ _)

pub returns-in_err-put_at-clause-memory : goal.returns-in_err-put_at-clause-memory
returns-in_err-put_at-clause-memory g c = on_err _ (none_more _ _ _)

pub returns-in_err-proof_of_entry-clause-memory : goal.returns-in_err-proof_of_entry-clause-memory
returns-in_err-proof_of_entry-clause-memory g c = on_err _ (none_more _ _ _)

pub returns-in_err-put_at-2-clause-memory : goal.returns-in_err-put_at-2-clause-memory
returns-in_err-put_at-2-clause-memory g c = on_err _ (none_more _ _ _)

pub returns-clause-memory : goal.returns-clause-memory
returns-clause-memory g c =
    let entries : c.as_slice-entries.result.now ≡ c.args.self.now.library.entries = c.as_slice-entries.ensures ∙ ap (λ t. t.library.entries) c.self.view_is in
    let place : c.place_of-place.result ≡ place_of c.args.self.now.library.entries (entry_name c.args.entry.now) = c.place_of-place.ensures ∙ (λ i. place_of (entries i) (c.entry_name.ensures i)) in
    let library = c.in_ok-library.ensures ∙ ap (λ t. t.library) c.self.view_is in
    let proofs = c.in_ok-proofs.ensures ∙ c.as_slice-2.ensures ∙ ap (λ t. t.proofs) c.self.view_is in
    let items : c.put_at.new.items ≡ (with_entry c.args.self.now c.args.entry.now c.args.proof.now).library.entries =
    c.in_ok-put_at.ensures ∙ (λ i. put_at (place i) (c.in_ok-copy.ensures i) (library i).entries) in
    let certs : c.put_at-2.new.items ≡ (with_entry c.args.self.now c.args.entry.now c.args.proof.now).proofs =
    c.in_ok-put_at-2.ensures ∙ (λ i. put_at (place i) (c.in_ok-proof_of_entry.ensures i) (proofs i)) in
    on_err_weaker c.renew.result (subst (λ t. AtMostAffected c.args.self.now t c.args.steps.now c.renew.new.steps) (table_is items certs)) c.renew.ensures.memory
