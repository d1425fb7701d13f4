use Rattle.std.proofs.Common.{◌≡◌, ◌++◌, true, OnOk, [], map, refl, sym, ap, ◌∙◌, subst}
use Rattle.std.specs.Prelude.{codes}
use Rattle.rw_program_printer.specs.Layout.{pins_text, local_text, prog_text, arm_text}
use Rattle.rw_program_printer.proofs.Written.{seq_written, if_written, do_written, block_written, block_is, con_is, module_is}
use Rattle.rw_program_printer.specs.ReadsBack.{IsSpelt, IsArmSpelt, AreSpelt}
use Rattle.rw_program_printer.specs.Readable.{named_names, named_pins}
use Rattle.rw_program_printer.proofs.Written.{on_map, on_pure}
use Rattle.rw_program_printer.proofs.Spelt.{skip_spelt, assign_spelt, seq_spelt, call_spelt, operation_spelt}
use Rattle.rw_program_printer.proofs.SpeltBlocks.{spec_spelt, local_spelt, con_spelt, module_spelt, arm_spelt, if_spelt, do_spelt}
use Rattle.std.proofs.lemmas.Bool.{and_parts}
use Rattle.std.proofs.lemmas.List.{drop_more}
use Rattle.rw_printer.specs.Layout.{listed}
use Rattle.rw_printer.specs.Readable.{named_terms}
use Rattle.rw_printer.proofs.Calls.{value_written}
use Rattle.rw_program_printer.proofs.programs.+push_program.Goals as goal

pub push_program-returns-in_ok-push_str-in-Seq-clause-text : goal.push_program-returns-in_ok-push_str-in-Seq-clause-text
push_program-returns-in_ok-push_str-in-Seq-clause-text t c = subst (λ x. OnOk c.push_program.result (c.push_program.new.text ≡ x)) (seq_written c.args.text.now c.push_first.new.text c.push_str-in-Seq.new.self c.get.result.now c.get-in-Seq.result.now c.in-Seq.first c.in-Seq.rest c.args.prog.now c.get.ensures c.get-in-Seq.ensures c.in-Seq.is c.in_ok-push_first-in-Seq.ensures.text c.in_ok-push_str-in-Seq.ensures.ok) c.push_program.ensures.text

pub push_program-returns-in_ok-push_arms-in-If-clause-text : goal.push_program-returns-in_ok-push_arms-in-If-clause-text
push_program-returns-in_ok-push_arms-in-If-clause-text t c = subst (λ x. OnOk c.push_str-in-If-2.result (c.push_str-in-If-2.new.self ≡ x)) (if_written c.args.text.now c.push_str-in-If.new.self c.push_arms.new.text c.as_slice-in-If.result.now c.in-If.arms c.args.prog.now c.as_slice-in-If.ensures c.in-If.is c.in_ok-push_str-in-If.ensures.ok c.in_ok-push_arms-in-If.ensures.text) c.push_str-in-If-2.ensures.ok

pub push_program-returns-in_ok-push_arms-in-Do-clause-text : goal.push_program-returns-in_ok-push_arms-in-Do-clause-text
push_program-returns-in_ok-push_arms-in-Do-clause-text t c = subst (λ x. OnOk c.push_str-in-Do.result (c.push_str-in-Do.new.self ≡ x)) (do_written c.args.text.now c.push_variant.new.text c.push_arms-in-Do.new.text c.in-Do.variant c.as_slice-in-Do.result.now c.in-Do.arms c.args.prog.now c.as_slice-in-Do.ensures c.in-Do.is c.in_ok-push_variant-in-Do.ensures.text c.in_ok-push_arms-in-Do.ensures.text) c.push_str-in-Do.ensures.ok

pub push_program-returns-in_ok-push_local-in-Block-clause-text : goal.push_program-returns-in_ok-push_local-in-Block-clause-text
push_program-returns-in_ok-push_local-in-Block-clause-text t c = subst (λ x. OnOk c.push_body.result (c.push_body.new.text ≡ x)) (block_written c.args.text.now c.push_str-in-Block.new.self c.push_local.new.text (codes "var ") (local_text c.in-Block.name c.in-Block.sort) c.get-in-Block.result.now c.in-Block.body c.args.prog.now c.get-in-Block.ensures (ap prog_text c.in-Block.is ∙ block_is c.in-Block.name c.in-Block.sort c.in-Block.body) c.in_ok-push_str-in-Block.ensures.ok c.in_ok-push_local-in-Block.ensures.text) c.push_body.ensures.text

pub push_program-returns-in_ok-push_pins-in-Con-clause-text : goal.push_program-returns-in_ok-push_pins-in-Con-clause-text
push_program-returns-in_ok-push_pins-in-Con-clause-text t c = subst (λ x. OnOk c.push_body-in-Con.result (c.push_body-in-Con.new.text ≡ x)) (block_written c.args.text.now c.push_str-in-Con.new.self c.push_pins.new.text (codes "con ") (pins_text c.in-Con.pins) c.get-in-Con.result.now c.in-Con.body c.args.prog.now c.get-in-Con.ensures (ap prog_text c.in-Con.is ∙ con_is c.in-Con.pins c.in-Con.body) c.in_ok-push_str-in-Con.ensures.ok (c.in_ok-push_pins-in-Con.ensures.text ∙ ap (λ l. c.push_str-in-Con.new.self ++ pins_text l) c.as_slice-in-Con.ensures)) c.push_body-in-Con.ensures.text

pub push_program-returns-in_ok-push_word-in-ModBlock-clause-text : goal.push_program-returns-in_ok-push_word-in-ModBlock-clause-text
push_program-returns-in_ok-push_word-in-ModBlock-clause-text t c = subst (λ x. OnOk c.push_body-in-ModBlock.result (c.push_body-in-ModBlock.new.text ≡ x)) (block_written c.args.text.now c.push_str-in-ModBlock.new.self c.push_word-in-ModBlock.new.text (codes "module ") c.in-ModBlock.home c.get-in-ModBlock.result.now c.in-ModBlock.body c.args.prog.now c.get-in-ModBlock.ensures (ap prog_text c.in-ModBlock.is ∙ module_is c.in-ModBlock.home c.in-ModBlock.body) c.in_ok-push_str-in-ModBlock.ensures.ok c.in_ok-push_word-in-ModBlock.ensures.text) c.push_body-in-ModBlock.ensures.text

pub push_program-returns-in_ok-push_str-in-Seq-clause-spelt : goal.push_program-returns-in_ok-push_str-in-Seq-clause-spelt
push_program-returns-in_ok-push_str-in-Seq-clause-spelt t c = on_map c.push_program.result (λ s. subst IsSpelt (sym c.in-Seq.is) (seq_spelt c.in-Seq.first c.in-Seq.rest (subst IsSpelt c.get.ensures c.in_ok-push_first-in-Seq.ensures.spelt) (subst IsSpelt c.get-in-Seq.ensures s))) c.push_program.ensures.spelt

pub push_program-returns-in_ok-push_arms-in-If-clause-spelt : goal.push_program-returns-in_ok-push_arms-in-If-clause-spelt
push_program-returns-in_ok-push_arms-in-If-clause-spelt t c = on_pure c.push_str-in-If-2.result (subst IsSpelt (sym c.in-If.is) (if_spelt c.in-If.arms (subst AreSpelt c.as_slice-in-If.ensures c.in_ok-push_arms-in-If.ensures.spelt)))

pub push_program-returns-in_ok-push_arms-in-Do-clause-spelt : goal.push_program-returns-in_ok-push_arms-in-Do-clause-spelt
push_program-returns-in_ok-push_arms-in-Do-clause-spelt t c = on_pure c.push_str-in-Do.result (subst IsSpelt (sym c.in-Do.is) (do_spelt c.in-Do.variant c.in-Do.arms c.in_ok-push_variant-in-Do.ensures.names (subst AreSpelt c.as_slice-in-Do.ensures c.in_ok-push_arms-in-Do.ensures.spelt)))

pub push_program-returns-in_ok-push_local-in-Block-clause-spelt : goal.push_program-returns-in_ok-push_local-in-Block-clause-spelt
push_program-returns-in_ok-push_local-in-Block-clause-spelt t c = on_map c.push_body.result (λ s. subst IsSpelt (sym c.in-Block.is) (local_spelt c.in-Block.name c.in-Block.sort c.in-Block.body c.in_ok-push_local-in-Block.ensures.names (subst IsSpelt c.get-in-Block.ensures s))) c.push_body.ensures.spelt

pub push_program-returns-in_ok-push_pins-in-Con-clause-spelt : goal.push_program-returns-in_ok-push_pins-in-Con-clause-spelt
push_program-returns-in_ok-push_pins-in-Con-clause-spelt t c = on_map c.push_body-in-Con.result (λ s. subst IsSpelt (sym c.in-Con.is) (con_spelt c.in-Con.pins c.in-Con.body (subst (λ l. named_pins l ≡ true) c.as_slice-in-Con.ensures c.in_ok-push_pins-in-Con.ensures.names) (subst IsSpelt c.get-in-Con.ensures s))) c.push_body-in-Con.ensures.spelt

pub push_program-returns-in_ok-push_word-in-ModBlock-clause-spelt : goal.push_program-returns-in_ok-push_word-in-ModBlock-clause-spelt
push_program-returns-in_ok-push_word-in-ModBlock-clause-spelt t c = on_map c.push_body-in-ModBlock.result (λ s. subst IsSpelt (sym c.in-ModBlock.is) (module_spelt c.in-ModBlock.home c.in-ModBlock.body c.in_ok-push_word-in-ModBlock.ensures.name (subst IsSpelt c.get-in-ModBlock.ensures s))) c.push_body-in-ModBlock.ensures.spelt

pub push_program-returns-in-Spec-clause-spelt : goal.push_program-returns-in-Spec-clause-spelt
push_program-returns-in-Spec-clause-spelt t c = on_map c.push_specification.result (λ n. subst IsSpelt (sym c.in-Spec.is) (spec_spelt c.in-Spec.spec n)) c.push_specification.ensures.names

pub push_program-returns-in-Skip-clause-spelt : goal.push_program-returns-in-Skip-clause-spelt
push_program-returns-in-Skip-clause-spelt t c = on_pure c.push_str.result (subst IsSpelt (sym c.in-Skip.is) skip_spelt)

pub push_program-returns-in-Assign-clause-spelt : goal.push_program-returns-in-Assign-clause-spelt
push_program-returns-in-Assign-clause-spelt t c = on_map c.push_assignment.result (λ n. let m = and_parts (named_names c.as_slice.result.now) (named_terms c.as_slice-in-Assign.result.now) n in subst IsSpelt (sym c.in-Assign.is) (assign_spelt c.in-Assign.names c.in-Assign.terms (subst (λ l. named_names l ≡ true) c.as_slice.ensures m.0) (subst (λ l. named_terms l ≡ true) c.as_slice-in-Assign.ensures m.1))) c.push_assignment.ensures.names

pub push_program-returns-in_ok-push_word-in-Call-clause-spelt : goal.push_program-returns-in_ok-push_word-in-Call-clause-spelt
push_program-returns-in_ok-push_word-in-Call-clause-spelt t c = on_map c.push_passed.result (λ n. let m = and_parts (named_terms c.as_slice-in-Call.result.now) (named_names c.as_slice-in-Call-2.result.now) n in subst IsSpelt (sym c.in-Call.is) (call_spelt c.in-Call.name c.in-Call.terms c.in-Call.names c.in_ok-push_word-in-Call.ensures.name (subst (λ l. named_terms l ≡ true) c.as_slice-in-Call.ensures m.0) (subst (λ l. named_names l ≡ true) c.as_slice-in-Call-2.ensures m.1))) c.push_passed.ensures.names

pub push_program-returns-in_ok-push_word-in-OpCall-2-clause-spelt : goal.push_program-returns-in_ok-push_word-in-OpCall-2-clause-spelt
push_program-returns-in_ok-push_word-in-OpCall-2-clause-spelt t c = on_map c.push_passed-in-OpCall.result (λ n. let m = and_parts (named_terms c.as_slice-in-OpCall.result.now) (named_names c.as_slice-in-OpCall-2.result.now) n in subst IsSpelt (sym c.in-OpCall.is) (operation_spelt c.in-OpCall.home c.in-OpCall.name c.in-OpCall.terms c.in-OpCall.names c.in_ok-push_word-in-OpCall.ensures.name c.in_ok-push_word-in-OpCall-2.ensures.name (subst (λ l. named_terms l ≡ true) c.as_slice-in-OpCall.ensures m.0) (subst (λ l. named_names l ≡ true) c.as_slice-in-OpCall-2.ensures m.1))) c.push_passed-in-OpCall.ensures.names

pub push_arm-returns-clause-spelt : goal.push_arm-returns-clause-spelt
push_arm-returns-clause-spelt t c = on_map c.push_program.result (λ s. arm_spelt c.args.arm.now c.in_ok-push_formula.ensures.names s) c.push_program.ensures.spelt

pub push_arms-loop-arm-preserved : goal.push_arms-loop-arm-preserved
unfolding lib.Utf8.encode
push_arms-loop-arm-preserved t c = record {
  utf8 = (codes " [] ", (refl, refl));
  ascii = refl;
  text = value_written (codes " [] ") c.loop-arm.before.now (c.args.text.now ++ listed (codes " [] ") [] (map arm_text c.args.arms.now)) c.loop-arm.text arm_text c.args.arms.now c.loop-arm.arm-index c.arm-item.result c.push_str.new.self c.push_arm.new.text
      c.loop-arm-test.true c.in_ok-push_str.ensures.ok (c.in_ok-push_arm.ensures.text ∙ ap (λ a. c.push_str.new.self ++ arm_text a) c.arm-item.is) c.loop-arm.invariant.text;
  spelt = λ s. c.loop-arm.invariant.spelt (subst AreSpelt (sym (drop_more c.args.arms.now c.loop-arm.arm-index c.arm-item.result c.loop-arm-test.true)) (subst IsArmSpelt c.arm-item.is c.in_ok-push_arm.ensures.spelt, s));
}
