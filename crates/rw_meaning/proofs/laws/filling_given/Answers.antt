use Rattle.std.proofs.Common.{[]}
use Rattle.rw_programs.specs.Meaning.{bodies, bodies_before}
use Rattle.rw_meaning.specs.Filling.{fill, CallFitsBy}
use Rattle.rw_meaning.specs.Given.{SetsNoValue, KidRefinesIn}
use Rattle.rw_meaning.proofs.Carried.{each_join}
use Rattle.rw_meaning.proofs.Contexts.{outermost_refines}
use Rattle.rw_meaning.proofs.Fill.{fill_better}
use Rattle.rw_meaning.proofs.Given.{Q, FitsGiven, having}
use Rattle.rw_meaning.proofs.laws.filling_given.Goals as goal

pub returns-clause-in_context : goal.returns-clause-in_context
returns-clause-in_context c = λ fixed brings E p k ks js opened scope d ok fit stay kid s f has.
    let calls = bodies E p k in let before = bodies_before E p in
    let parts = each_join brings (CallFitsBy E calls before brings) (SetsNoValue E) (Q E calls before brings) (λ o r e a b. (a, b)) opened scope (fill ks d) fit stay in
    fill_better E calls before brings ks js (Q E calls before brings) (KidRefinesIn fixed E p k ks js) (FitsGiven E calls before brings fixed) (having E calls before brings fixed)
    (λ o r n h u g. h u g.0 g.1) opened scope d ok parts kid s (f, has)

pub returns-clause-in_scope : goal.returns-clause-in_scope
returns-clause-in_scope c = λ fixed brings E p k ks js scope d ok fit stay kid.
    (outermost_refines fixed scope E p k (fill ks d) (fill js d)).0 (returns-clause-in_context c fixed brings E p k ks js [] scope d ok fit stay kid)
