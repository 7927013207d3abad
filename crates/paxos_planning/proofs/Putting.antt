-- Votes that are put, one after the other.
use Rattle.std.proofs.Common.{◌≡◌, ⊎_elim, ℕ, ◌<◌, false, eqb, refl, sym, ap, ◌∙◌, subst, arith, List, [], ◌∷◌}
use Rattle.std.specs.Prelude.{if◌then◌else◌, nat_lt}
use Rattle.std.proofs.lemmas.Bool.{cond-true, cond-false, eq-eqb, ne_eqb, lt-ltb, cases_order, le-ltb}
use Rattle.paxos_packets.proofs.Ascending.{AllAfter, Ascends}
use Rattle.paxos_packets.specs.Vote.{put_vote, put_votes}
use Rattle.paxos_packets.specs.declared.vote.Vote.{Vote}

module _ {B : Type 0} where
  put_eq : (v w : Vote B) (ws : List (Vote B)) → v.slot ≡ w.slot → put_vote v (w ∷ ws) ≡ v ∷ ws
  put_eq v w ws e =
      cond-true (eqb v.slot w.slot) (v ∷ ws) (if nat_lt v.slot w.slot then v ∷ (w ∷ ws) else w ∷ put_vote v ws) (eq-eqb v.slot w.slot e)

  put_lt : (v w : Vote B) (ws : List (Vote B)) → v.slot < w.slot → put_vote v (w ∷ ws) ≡ v ∷ (w ∷ ws)
  put_lt v w ws l =
      cond-false (eqb v.slot w.slot) (v ∷ ws) (if nat_lt v.slot w.slot then v ∷ (w ∷ ws) else w ∷ put_vote v ws)
      (ne_eqb v.slot w.slot (apart l))
      ∙ cond-true (nat_lt v.slot w.slot) (v ∷ (w ∷ ws)) (w ∷ put_vote v ws) (lt-ltb v.slot w.slot l)
    where
      apart : v.slot < w.slot → v.slot ≡ w.slot → ⊥
      apart l e = omega arith

  put_gt : (v w : Vote B) (ws : List (Vote B)) → w.slot < v.slot → put_vote v (w ∷ ws) ≡ w ∷ put_vote v ws
  put_gt v w ws l =
      cond-false (eqb v.slot w.slot) (v ∷ ws) (if nat_lt v.slot w.slot then v ∷ (w ∷ ws) else w ∷ put_vote v ws)
      (ne_eqb v.slot w.slot (apart l))
      ∙ cond-false (nat_lt v.slot w.slot) (v ∷ (w ∷ ws)) (w ∷ put_vote v ws) (past l)
    where
      apart : w.slot < v.slot → v.slot ≡ w.slot → ⊥
      apart l e = omega arith

      past : w.slot < v.slot → nat_lt v.slot w.slot ≡ false
      past l = le-ltb v.slot w.slot (omega arith)

  -- in two slots, in either order
  put_two : (a b : Vote B) → a.slot < b.slot → (ws : List (Vote B)) → put_vote a (put_vote b ws) ≡ put_vote b (put_vote a ws)
  put_two a b l [] = put_lt a b [] l ∙ sym (put_gt b a [] l)
  put_two a b l (x ∷ ws) =
      ⊎_elim
      (λ (e : a.slot ≡ x.slot).
      let p : x.slot < b.slot = omega arith in
      ap (λ l. put_vote a l) (put_gt b x ws p)
      ∙ (put_eq a x (put_vote b ws) e ∙ (sym (put_gt b a ws l) ∙ ap (λ l. put_vote b l) (sym (put_eq a x ws e)))))
      (λ r. ⊎_elim
      (λ (h : a.slot < x.slot). before h ∙ (sym (put_gt b a (x ∷ ws) l) ∙ ap (λ l. put_vote b l) (sym (put_lt a x ws h))))
      (λ (h : x.slot < a.slot).
      let p : x.slot < b.slot = omega arith in
      ap (λ l. put_vote a l) (put_gt b x ws p)
      ∙ (put_gt a x (put_vote b ws) h ∙ (ap (λ l. x ∷ l) (put_two a b l ws)
      ∙ (sym (put_gt b x (put_vote a ws) p) ∙ ap (λ l. put_vote b l) (sym (put_gt a x ws h))))))
      r)
      (cases_order a.slot x.slot)
    where
      -- a comes before whatever b leaves
      before : a.slot < x.slot → put_vote a (put_vote b (x ∷ ws)) ≡ a ∷ put_vote b (x ∷ ws)
      before h =
          ⊎_elim
          (λ (e : b.slot ≡ x.slot). ap (λ l. put_vote a l) (put_eq b x ws e) ∙ (put_lt a b ws l ∙ ap (λ l. a ∷ l) (sym (put_eq b x ws e))))
          (λ r. ⊎_elim
          (λ (g : b.slot < x.slot). ap (λ l. put_vote a l) (put_lt b x ws g)
          ∙ (put_lt a b (x ∷ ws) l ∙ ap (λ l. a ∷ l) (sym (put_lt b x ws g))))
          (λ (g : x.slot < b.slot). ap (λ l. put_vote a l) (put_gt b x ws g)
          ∙ (put_lt a x (put_vote b ws) h ∙ ap (λ l. a ∷ l) (sym (put_gt b x ws g))))
          r)
          (cases_order b.slot x.slot)

  -- in one slot the last one stays
  put_same : (a b : Vote B) → a.slot ≡ b.slot → (ws : List (Vote B)) → put_vote a (put_vote b ws) ≡ put_vote a ws
  put_same a b e [] = put_eq a b [] e
  put_same a b e (x ∷ ws) =
      ⊎_elim
      (λ (h : b.slot ≡ x.slot). ap (λ l. put_vote a l) (put_eq b x ws h) ∙ (put_eq a b ws e ∙ sym (put_eq a x ws (e ∙ h))))
      (λ r. ⊎_elim
      (λ (h : b.slot < x.slot). let p : a.slot < x.slot = omega arith in ap (λ l. put_vote a l) (put_lt b x ws h)
      ∙ (put_eq a b (x ∷ ws) e ∙ sym (put_lt a x ws p)))
      (λ (h : x.slot < b.slot). let p : x.slot < a.slot = omega arith in ap (λ l. put_vote a l) (put_gt b x ws h)
      ∙ (put_gt a x (put_vote b ws) p ∙ (ap (λ l. x ∷ l) (put_same a b e ws) ∙ sym (put_gt a x ws p))))
      r)
      (cases_order b.slot x.slot)

  -- a vote in front of others
  put_front : (v : Vote B) (cs ws : List (Vote B)) → AllAfter v.slot cs → put_vote v (put_votes cs ws) ≡ put_votes cs (put_vote v ws)
  put_front v [] ws h = refl
  put_front v (c ∷ cs) ws h = put_front v cs (put_vote c ws) h.1 ∙ ap (λ l. put_votes cs l) (put_two v c h.0 ws)

  all_after : (a b : ℕ) → a < b → (cs : List (Vote B)) → AllAfter b cs → AllAfter a cs
  all_after a b l [] h = tt
  all_after a b l (c ∷ cs) h = let p : b < c.slot = h.0 in (omega arith, all_after a b l cs h.1)

  pub votes_put : (v : Vote B) (cs ws : List (Vote B)) → Ascends cs → put_votes (put_vote v cs) ws ≡ put_vote v (put_votes cs ws)
  votes_put v [] ws h = refl
  votes_put v (c ∷ cs) ws h =
      ⊎_elim
      (λ (e : v.slot ≡ c.slot).
      ap (λ l. put_votes l ws) (put_eq v c cs e)
      ∙ (ap (λ l. put_votes cs l) (sym (put_same v c e ws))
      ∙ sym (put_front v cs (put_vote c ws) (subst (λ s. AllAfter s cs) (sym e) h.0))))
      (λ r. ⊎_elim
      (λ (l : v.slot < c.slot). ap (λ z. put_votes z ws) (put_lt v c cs l)
      ∙ sym (put_front v (c ∷ cs) ws (l, all_after v.slot c.slot l cs h.0)))
      (λ (l : c.slot < v.slot). ap (λ z. put_votes z ws) (put_gt v c cs l) ∙ votes_put v cs (put_vote c ws) h.1)
      r)
      (cases_order v.slot c.slot)
