use Rattle.std.proofs.Common.{◌+◌, drop, sym, ap, ◌∙◌, arith}
use Rattle.text_tokens.specs.Tokens.{ended, taken_all, tokens_of}
use Rattle.text_tokens.specs.declared.Tokens.{Tokens}
use Rattle.text_tokens.proofs.TokenLaws.{taken_next, taken_end}
use Rattle.text_tokens.proofs.tokens_of.Goals as goal

pub loop-c-preserved : goal.loop-c-preserved
loop-c-preserved c =
    let l = c.loop-c in
    let line = c.args.line.now in
    ap (λ (s : Tokens). taken_all s (drop (l.c-index + 1) line)) c.follow-s.ensures ∙ taken_next _ line l.c-index (omega arith) ∙ l.invariant

pub returns : goal.returns
unfolding tokens_of
returns c =
    let l = c.loop-c in
    c.finish.ensures ∙ ap ended (sym (taken_end _ c.args.line.now l.c-index (omega arith)) ∙ l.invariant)
