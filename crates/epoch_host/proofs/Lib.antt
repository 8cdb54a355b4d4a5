mod Answering
mod Beginning
mod Carrying
mod Due
mod Ending
mod Going
mod Hearing
pub mod Knowing
mod Leading
mod Looking
mod Moving
mod OneDeed
mod Owning
mod Spelling
mod Staying
mod Submitting
mod Walking
mod Working
