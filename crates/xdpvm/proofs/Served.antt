-- That the program does what its arguments ask for, where they ask for something and where not.
use Rattle.xdpvm.proofs.Common.{◌≡◌, ℕ, List, Option, Some, None, Err, true, subst, sym, refl, inl, inr, codes, both_ways, string_bytes, PromptWriter, held, WordsError, Wrong, NotUnicode, Memory, TaskRequest, AsksFor, asked, TaskOutcome, Ending, IsWordsEnd, is_silent, Flushes, Serves, ServesTold, Executes}
use Rattle.std.proofs.KnownBytes.{Keeps-refl}
use Rattle.xdpvm.proofs.StatusesLaws.{says_wrong, wrong_silent}

-- standard output to which nothing was written is left unchanged
untouched : {W : Type 0} (contents : W → Option (List ℕ)) (given : PromptWriter W) (r : Ending)
    → is_silent r.outcome ≡ true → Flushes contents given given r r
untouched contents given r silent =
    record {
      kept = Keeps-refl (held contents given);
      silent = λ _. (refl, refl);
      ends = inl
          ((λ loud. absurd (both_ways (is_silent r.outcome) loud silent)), refl);
    }

-- the request is served, and then standard output is flushed
pub asked-served : {W : Type 0} (contents : W → Option (List ℕ)) (words : List (List ℕ))
    (request : TaskRequest) (old given new : PromptWriter W) (told_old told_new : Option (List ℕ))
    (ended r : Ending) → asked words ≡ Some request
    → ServesTold (Some request) (held contents old) (held contents given) told_old told_new ended
    → Flushes contents given new ended r → Executes contents words old new told_old told_new r
asked-served contents words request old given new told_old told_new ended r is h on =
    inr (record {
      given = given;
      ended = ended;
      serves = subst
          (λ (x : Option TaskRequest). ServesTold x (held contents old) (held contents given)
          told_old told_new ended)
          (sym is) h;
      hands_on = on;
    })

-- arguments that ask for nothing
pub unasked : {W : Type 0} (contents : W → Option (List ℕ)) (words : List (List ℕ))
    (error : WordsError) (out : PromptWriter W) (told : Option (List ℕ)) (o : TaskOutcome)
    → AsksFor words (Err error) → IsWordsEnd error o
    → Executes contents words out out told told (record { outcome = o; why = None })
unasked contents words (Wrong text) out told o none is =
    let ending : Ending = record { outcome = o; why = None } in
    let serves : Serves None (held contents out)
    (held contents out) ending = ((says_wrong (string_bytes text) o is, refl), refl) in
    inr (record {
      given = out;
      ended = ending;
      serves =
          subst (λ (x : Option TaskRequest). ServesTold x (held contents out)
          (held contents out) told told ending) (sym none) (serves, refl);
      hands_on = untouched contents out ending (wrong_silent (string_bytes text) o is);
    })
unasked contents words NotUnicode out told o none is =
    let ending : Ending = record { outcome = o; why = None } in
    let serves : Serves None (held contents out)
    (held contents out) ending = ((says_wrong (codes "error: an argument is not UTF-8\n") o is, refl), refl) in
    inr (record {
      given = out;
      ended = ending;
      serves =
          subst (λ (x : Option TaskRequest). ServesTold x (held contents out)
          (held contents out) told told ending) (sym none) (serves, refl);
      hands_on = untouched contents out ending (wrong_silent (codes "error: an argument is not UTF-8\n") o is);
    })
unasked contents words Memory out told o none is = inl (((is, refl), refl), refl)
