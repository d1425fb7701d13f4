use Rattle.std.proofs.Common.{ap, sym, ◌∙◌, ◌+◌, slice_get, Some}
use Rattle.std.proofs.lemmas.Option.{slice_get_within}
use Rattle.rw_numbering.specs.Loops.{loops}
use Rattle.rw_numbering.specs.Tables.{bodies_from}
use Rattle.rw_numbering.specs.Tallies.{tally_of}
use Rattle.rw_numbering.proofs.Places.{module_found, module_none, module_read, module_tallied_read}
use Rattle.rw_numbering.proofs.numbered.find_owner.Goals as goal

pub bounds-tallies-at : goal.bounds-tallies-at
bounds-tallies-at c =
    let r = module_found c.args.name.now c.args.modules.now c.in-Some.at (sym c.in-Some.ensures.value) in
    slice_get_within c.args.tallies.now c.in-Some.at _ (ap (λ ts. slice_get ts c.in-Some.at) c.requires.1 ∙ r.tallied c.requires.0)

pub new-requires : goal.new-requires
new-requires c =
    let r = module_found c.args.name.now c.args.modules.now c.in-Some.at (sym c.in-Some.ensures.value) in
    let e = module_read r c.index-modules-at.result c.index-modules-at.is in
    let t = module_tallied_read r c.requires.0 c.args.tallies.now c.requires.1 c.index-tallies-at.result c.index-tallies-at.is in
    ap (λ d. d.start.tally) t ∙ ap (λ d. tally_of d.start) (sym e)

pub returns-in-Some-clause-entry : goal.returns-in-Some-clause-entry
returns-in-Some-clause-entry c =
    let r = module_found c.args.name.now c.args.modules.now c.in-Some.at (sym c.in-Some.ensures.value) in
    ap (λ d. Some d) (module_read r c.index-modules-at.result c.index-modules-at.is) ∙ sym r.is

pub returns-in-Some-clause-first : goal.returns-in-Some-clause-first
returns-in-Some-clause-first c n h =
    let r = module_found c.args.name.now c.args.modules.now c.in-Some.at (sym c.in-Some.ensures.value) in
    ap (λ d. d.start.first) (module_tallied_read r n c.args.tallies.now h c.index-tallies-at.result c.index-tallies-at.is)

pub returns-in-Some-clause-operations : goal.returns-in-Some-clause-operations
returns-in-Some-clause-operations c =
    let r = module_found c.args.name.now c.args.modules.now c.in-Some.at (sym c.in-Some.ensures.value) in
    let e = module_read r c.index-modules-at.result c.index-modules-at.is in
    let t = module_tallied_read r c.requires.0 c.args.tallies.now c.requires.1 c.index-tallies-at.result c.index-tallies-at.is in
    c.as_slice.ensures ∙ ap (λ d. d.operations) t
    ∙ ap (λ n. bodies_from (n + loops r.entry.start) r.entry.operations) (sym (ap (λ d. d.start.first) t))
    ∙ ap (λ d. bodies_from (c.index-tallies-at.result.start.first + loops d.start) d.operations) (sym e)

pub returns-in-None-clause-entry : goal.returns-in-None-clause-entry
returns-in-None-clause-entry c = sym (module_none c.args.name.now c.args.modules.now (sym c.in-None.ensures.value))
