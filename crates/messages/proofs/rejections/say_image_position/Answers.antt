use Rattle.messages.proofs.rejections.say_image_position.Goals as goal

pub returns-in-Magic-clause-ok : goal.returns-in-Magic-clause-ok
returns-in-Magic-clause-ok g c = rw c.in-Magic.is c.say_file_form.ensures.ok

pub returns-in-Magic-clause-err : goal.returns-in-Magic-clause-err
returns-in-Magic-clause-err g c = rw c.in-Magic.is c.say_file_form.ensures.err
