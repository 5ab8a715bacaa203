-- What some arguments ask for, computed.
use Rattle.words.proofs.Common.{◌≡◌, [], ◌∷◌, Some, None, codes, refl, max_steps, program, asm, dis, verify, run, trace, prove, recheck, explain, Trace, Run, Verify, Prove, Recheck, asked}
use Rattle.clap.proofs.OnLiterals.{clap_on_literals}

-- ---- the commands

runs : asked (codes "xdpvm" ∷ codes "run" ∷ codes "a" ∷ codes "b" ∷ codes "c" ∷ [])
    ≡ Some (Run (record { image = codes "a"; frames = codes "b"; out = codes "c" }) None)
unfolding clap_on_literals asked program asm dis verify run trace prove recheck explain
runs = refl

traces : asked (codes "xdpvm" ∷ codes "trace" ∷ codes "a" ∷ codes "b" ∷ codes "c" ∷ [])
    ≡ Some (Trace (record { image = codes "a"; frames = codes "b"; out = codes "c" }) max_steps)
unfolding clap_on_literals asked program asm dis verify run trace prove recheck explain
traces = refl

-- ---- a limit can be anywhere among the files, and has its value after it or after an equals sign

traces-limit : asked
    (codes "xdpvm" ∷ codes "trace" ∷ codes "a" ∷ codes "b" ∷ codes "c" ∷ codes "--limit" ∷ codes "5"
    ∷ []) ≡ Some (Trace (record { image = codes "a"; frames = codes "b"; out = codes "c" }) 5)
unfolding clap_on_literals asked program asm dis verify run trace prove recheck explain
traces-limit = refl

traces-limit-first : asked
    (codes "xdpvm" ∷ codes "trace" ∷ codes "--limit" ∷ codes "1000000" ∷ codes "a" ∷ codes "b"
    ∷ codes "c" ∷ [])
    ≡ Some (Trace (record { image = codes "a"; frames = codes "b"; out = codes "c" }) max_steps)
unfolding clap_on_literals asked program asm dis verify run trace prove recheck explain
traces-limit-first = refl

traces-limit-equals : asked
    (codes "xdpvm" ∷ codes "trace" ∷ codes "a" ∷ codes "--limit=007" ∷ codes "b" ∷ codes "c" ∷ [])
    ≡ Some (Trace (record { image = codes "a"; frames = codes "b"; out = codes "c" }) 7)
unfolding clap_on_literals asked program asm dis verify run trace prove recheck explain
traces-limit-equals = refl

-- ---- what is not a limit

traces-limit-zero : asked
    (codes "xdpvm" ∷ codes "trace" ∷ codes "a" ∷ codes "b" ∷ codes "c" ∷ codes "--limit" ∷ codes "0"
    ∷ []) ≡ None
unfolding clap_on_literals asked program asm dis verify run trace prove recheck explain
traces-limit-zero = refl

traces-limit-over : asked
    (codes "xdpvm" ∷ codes "trace" ∷ codes "a" ∷ codes "b" ∷ codes "c" ∷ codes "--limit"
    ∷ codes "1000001" ∷ []) ≡ None
unfolding clap_on_literals asked program asm dis verify run trace prove recheck explain
traces-limit-over = refl

traces-limit-sign : asked
    (codes "xdpvm" ∷ codes "trace" ∷ codes "a" ∷ codes "b" ∷ codes "c" ∷ codes "--limit"
    ∷ codes "+5" ∷ []) ≡ None
unfolding clap_on_literals asked program asm dis verify run trace prove recheck explain
traces-limit-sign = refl

traces-limit-twice : asked
    (codes "xdpvm" ∷ codes "trace" ∷ codes "a" ∷ codes "b" ∷ codes "c" ∷ codes "--limit" ∷ codes "5"
    ∷ codes "--limit" ∷ codes "5" ∷ []) ≡ None
unfolding clap_on_literals asked program asm dis verify run trace prove recheck explain
traces-limit-twice = refl

runs-limit : asked
    (codes "xdpvm" ∷ codes "run" ∷ codes "a" ∷ codes "b" ∷ codes "c" ∷ codes "--limit" ∷ codes "5"
    ∷ []) ≡ None
unfolding clap_on_literals asked program asm dis verify run trace prove recheck explain
runs-limit = refl

-- ---- after two hyphens all arguments are files

verifies-hyphen : asked (codes "xdpvm" ∷ codes "verify" ∷ codes "--" ∷ codes "-a" ∷ [])
    ≡ Some (Verify (codes "-a"))
unfolding clap_on_literals asked program asm dis verify run trace prove recheck explain
verifies-hyphen = refl

-- ---- proof tables

proves : asked (codes "xdpvm" ∷ codes "prove" ∷ codes "a" ∷ codes "b" ∷ [])
    ≡ Some (Prove (record { image = codes "a"; table = codes "b" }))
unfolding clap_on_literals asked program asm dis verify run trace prove recheck explain
proves = refl

rechecks : asked (codes "xdpvm" ∷ codes "recheck" ∷ codes "a" ∷ codes "b" ∷ [])
    ≡ Some (Recheck (record { image = codes "a"; table = codes "b" }))
unfolding clap_on_literals asked program asm dis verify run trace prove recheck explain
rechecks = refl

rechecks-one : asked (codes "xdpvm" ∷ codes "recheck" ∷ codes "a" ∷ []) ≡ None
unfolding clap_on_literals asked program asm dis verify run trace prove recheck explain
rechecks-one = refl

-- ---- the table of `run` can be anywhere among its files

runs-table : asked
    (codes "xdpvm" ∷ codes "run" ∷ codes "--table" ∷ codes "t" ∷ codes "a" ∷ codes "b" ∷ codes "c"
    ∷ []) ≡ Some (Run (record { image = codes "a"; frames = codes "b"; out = codes "c" })
    (Some (codes "t")))
unfolding clap_on_literals asked program asm dis verify run trace prove recheck explain
runs-table = refl

runs-table-last : asked
    (codes "xdpvm" ∷ codes "run" ∷ codes "a" ∷ codes "b" ∷ codes "c" ∷ codes "--table=t" ∷ [])
    ≡ Some (Run (record { image = codes "a"; frames = codes "b"; out = codes "c" })
    (Some (codes "t")))
unfolding clap_on_literals asked program asm dis verify run trace prove recheck explain
runs-table-last = refl

runs-table-twice : asked
    (codes "xdpvm" ∷ codes "run" ∷ codes "a" ∷ codes "b" ∷ codes "c" ∷ codes "--table" ∷ codes "t"
    ∷ codes "--table" ∷ codes "t" ∷ []) ≡ None
unfolding clap_on_literals asked program asm dis verify run trace prove recheck explain
runs-table-twice = refl

runs-table-none : asked
    (codes "xdpvm" ∷ codes "run" ∷ codes "a" ∷ codes "b" ∷ codes "c" ∷ codes "--table" ∷ []) ≡ None
unfolding clap_on_literals asked program asm dis verify run trace prove recheck explain
runs-table-none = refl

traces-table : asked
    (codes "xdpvm" ∷ codes "trace" ∷ codes "a" ∷ codes "b" ∷ codes "c" ∷ codes "--table" ∷ codes "t"
    ∷ []) ≡ None
unfolding clap_on_literals asked program asm dis verify run trace prove recheck explain
traces-table = refl

-- ---- arguments that ask for nothing

nothing : asked (codes "xdpvm" ∷ []) ≡ None
unfolding clap_on_literals asked program asm dis verify run trace prove recheck explain
nothing = refl

unknown : asked (codes "xdpvm" ∷ codes "walk" ∷ codes "a" ∷ []) ≡ None
unfolding clap_on_literals asked program asm dis verify run trace prove recheck explain
unknown = refl

helps : asked (codes "xdpvm" ∷ codes "--help" ∷ []) ≡ None
unfolding clap_on_literals asked program asm dis verify run trace prove recheck explain
helps = refl

helps-too : asked (codes "xdpvm" ∷ codes "help" ∷ []) ≡ None
unfolding clap_on_literals asked program asm dis verify run trace prove recheck explain
helps-too = refl

verifies-none : asked (codes "xdpvm" ∷ codes "verify" ∷ []) ≡ None
unfolding clap_on_literals asked program asm dis verify run trace prove recheck explain
verifies-none = refl

verifies-unknown : asked (codes "xdpvm" ∷ codes "verify" ∷ codes "-a" ∷ []) ≡ None
unfolding clap_on_literals asked program asm dis verify run trace prove recheck explain
verifies-unknown = refl

runs-two : asked (codes "xdpvm" ∷ codes "run" ∷ codes "a" ∷ codes "b" ∷ []) ≡ None
unfolding clap_on_literals asked program asm dis verify run trace prove recheck explain
runs-two = refl

runs-four : asked (codes "xdpvm" ∷ codes "run" ∷ codes "a" ∷ codes "b" ∷ codes "c" ∷ codes "d" ∷ [])
    ≡ None
unfolding clap_on_literals asked program asm dis verify run trace prove recheck explain
runs-four = refl
