use Rattle.std.proofs.Common.{◌+◌, length, take, map, sym, ◌∙◌, subst}
use Rattle.std.proofs.lemmas.List.Elements.{All-get_or}
use Rattle.httparse.specs.Spans.{IsHeaderWithin, header_bytes}
use Rattle.rw_http.specs.declared.fields.Named.{Named}
use Rattle.rw_http.specs.Fields.{values_of}
use Rattle.rw_http.specs.NamedValues.{HoldsValues}
use Rattle.rw_http.proofs.FieldLemmas.{step_named, step_none}
use Rattle.rw_http.proofs.fields.find_named.Goals.{then-is_named, else-is_named}
use Rattle.rw_http.proofs.fields.find_named.Goals as goal

pub loop-header-preserved : goal.loop-header-preserved
loop-header-preserved c =
    let i = c.loop-header.header-index in
    let values = values_of c.args.name.now (map (header_bytes c.args.front.now) (take (i + 1) c.args.headers.now)) in
    let after = λ (f : Named). HoldsValues c.args.front.now f values in
    elim c.if-is_named.branch [
      | then-is_named w ↦ subst after (sym (w.found-is ∙ w.with_value-found.ensures)) (step_named _ _ _ i _ _ c.loop-header-test.true c.loop-header.invariant (sym c.is_named.ensures ∙ w.if-is_named.true)
          (All-get_or (IsHeaderWithin (length c.args.front.now)) _ i _ c.loop-header-test.true c.requires.within).1)
      | else-is_named w ↦ subst after (sym w.found-is) (step_none _ _ _ i _ _ c.loop-header-test.true c.loop-header.invariant (sym c.is_named.ensures ∙ w.if-is_named.false))
    ]
