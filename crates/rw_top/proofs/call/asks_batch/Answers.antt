use Rattle.std.proofs.Common.{ℕ, List, [], ◌∷◌, map, sym, ◌∙◌, ap}
use Rattle.std.proofs.lemmas.Slice.Eq.{bytes_eq-Decides}
use Rattle.std.specs.String.{string_bytes}
use Rattle.rw_top.proofs.OneWord.{only_one, head_of}
use Rattle.rw_top.proofs.call.asks_batch.Goals as goal

pub returns-in-len1 : goal.returns-in-len1
returns-in-len1 c =
    let w = c.word-item.result in
    let words_are = sym c.as_slice.ensures.value ∙ only_one c.as_slice.result.now w c.in-len1.len_at_least c.in-len1.len_below c.word-item.is in
    let texts = ap (λ ws. map (λ w. string_bytes w) ws) words_are in
    let d = bytes_eq-Decides c.as_str.result.now (98 ∷ 97 ∷ 116 ∷ 99 ∷ 104 ∷ []) in (
      λ yes. texts ∙ ap (λ (t : List ℕ). t ∷ []) (sym c.as_str.ensures.value ∙ d.0 (sym c.eq.ensures ∙ yes)),
      λ same. c.eq.ensures ∙ d.1 (c.as_str.ensures.value ∙ head_of _ _ _ texts same),
    )
