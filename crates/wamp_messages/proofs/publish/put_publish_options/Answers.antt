use Rattle.wamp_messages.proofs.publish.put_publish_options.Goals as goal

pub returns-in-true-true : goal.returns-in-true-true
returns-in-true-true c = rw (c.in-true-true.is-0, c.in-true-true.is-1) c.put_flag_option.ensures

pub returns-in-true-false : goal.returns-in-true-false
returns-in-true-false c = rw (c.in-true-false.is-0, c.in-true-false.is-1) c.put_both_options.ensures

pub returns-in-false-false : goal.returns-in-false-false
returns-in-false-false c = rw (c.in-false-false.is-0, c.in-false-false.is-1) c.put_flag_option-in-false-false.ensures
