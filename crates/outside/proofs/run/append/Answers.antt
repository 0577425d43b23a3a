use Rattle.std.proofs.Common.{[], ◌∷◌, ◌++◌, map, take, vec_items, sym, refl, ap, ◌∙◌, append_assoc, append-nil}
use Rattle.std.proofs.lemmas.List.{map_more, take_all}
use Rattle.outside.proofs.run.append.Goals as goal

pub loop-at-init : goal.loop-at-init
loop-at-init g c = (sym (append-nil (vec_items c.args.answers.now)), λ s. refl)

pub loop-at-preserved : goal.loop-at-preserved
loop-at-preserved g c =
    let meant = g.P.PriceSource.means c.args.source.now in
    let asked = c.args.questions.now in
    let at = c.at-item.result in
    let i = c.loop-at.at-index in
    let first = vec_items c.args.answers.now in
    let before = vec_items c.loop-at.answers in
    let told = c.price.ensures.answer ∙ c.loop-at.invariant.1 at in (
      c.in_ok-push.ensures.items ∙ ap (λ x. before ++ x ∷ []) told
          ∙ ap (λ xs. xs ++ meant at ∷ []) c.loop-at.invariant.0
          ∙ append_assoc first (map meant (take i asked)) (meant at ∷ [])
          ∙ ap (λ s. first ++ (map meant (take i asked) ++ meant s ∷ [])) c.at-item.is
          ∙ ap (λ xs. first ++ xs) (sym (map_more meant asked i at c.loop-at-test.true)),
      λ s. c.price.ensures.kept s ∙ c.loop-at.invariant.1 s,
    )

pub returns : goal.returns
returns g c =
    let meant = g.P.PriceSource.means c.args.source.now in
    let first = vec_items c.args.answers.now in
    record {
      law = c.loop-at.invariant.0 ∙ ap (λ xs. first ++ map meant xs) (take_all c.loop-at.at-index c.args.questions.now c.loop-at-test.false);
      kept = c.loop-at.invariant.1;
    }
