use Rattle.std.proofs.Common.{[]}
use Rattle.rw_programs.specs.Meaning.{bodies, bodies_before}
use Rattle.rw_meaning.specs.Filling.{FitsIn, CallFitsBy, KidBetterBy}
use Rattle.rw_meaning.proofs.Carried.{fitting}
use Rattle.rw_meaning.proofs.Contexts.{outermost}
use Rattle.rw_meaning.proofs.Fill.{fill_better}
use Rattle.rw_meaning.proofs.laws.filling.Goals as goal

pub returns-clause-in_context : goal.returns-clause-in_context
returns-clause-in_context c = λ brings E p k ks js opened scope d ok fit kid s f.
    let calls = bodies E p k in let before = bodies_before E p in
    fill_better E calls before brings ks js (CallFitsBy E calls before brings) (KidBetterBy E calls before ks js) (FitsIn E) (fitting E calls before brings) (λ opened scope n h. h)
    opened scope d ok fit kid s f

pub returns-clause-in_scope : goal.returns-clause-in_scope
returns-clause-in_scope c = λ brings E p k ks js scope d ok fit kid s f.
    let calls = bodies E p k in let before = bodies_before E p in
    fill_better E calls before brings ks js (CallFitsBy E calls before brings) (KidBetterBy E calls before ks js) (FitsIn E) (fitting E calls before brings) (λ opened scope n h. h)
    [] scope d ok fit kid s ((outermost E scope s).1 f)
