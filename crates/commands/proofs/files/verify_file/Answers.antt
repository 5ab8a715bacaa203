use Rattle.commands.proofs.Loading.{image_verified, verify_unloaded}
use Rattle.commands.proofs.files.verify_file.Goals as goal

pub returns-in-Err : goal.returns-in-Err
returns-in-Err g c =
    verify_unloaded _ _ _ _ _ c.in-Err.ensures.none c.plain.ensures.outcome c.plain.ensures.why

pub returns : goal.returns
returns g c =
    image_verified _ _ _ _ _ _ c.in-Ok.ensures.ok c.in-Ok.ensures.fits
    c.say_verdict.ensures.verifies c.say_verdict.ensures.known
